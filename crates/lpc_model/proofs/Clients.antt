-- Client ports allow their servers something, and are the other ends of server ports: so an impersonation finds it.
pub mod Ends
pub mod Allowing
pub mod Refusal
