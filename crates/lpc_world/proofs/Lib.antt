mod Lent
mod Places
mod Told
mod Hearers
mod Enrolled
mod AllHeld
mod Owners
mod Unreceived
