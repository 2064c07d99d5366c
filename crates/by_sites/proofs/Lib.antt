mod Lists
mod Growing
mod Telling
mod Taking
mod Quiet
mod Keeping
mod Concluding
