pub mod Cut
pub mod Numbers
pub mod Same
