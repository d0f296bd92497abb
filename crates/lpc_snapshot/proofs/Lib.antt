mod Loops
mod Paths
mod Pieces
mod Places
mod Refs
mod Tables
mod Zeros
