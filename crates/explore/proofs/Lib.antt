mod Beginnings
mod Audits
mod Ordered
