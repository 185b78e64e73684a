-- Laws, for the laws of worlds.
pub mod PutLaws
pub mod Alone
pub mod AloneLaws
pub mod Desks
pub mod Starting
pub mod Worlds
pub mod Asked
pub mod Finishing
pub mod Scheduling
