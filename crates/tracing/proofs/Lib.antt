mod Grown
mod Standing
mod Tracings
