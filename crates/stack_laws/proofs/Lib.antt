pub mod Coming
pub mod Going
pub mod Hellos
pub mod Order
pub mod Passing
pub mod Stacks
