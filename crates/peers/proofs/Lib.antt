mod Links
mod Streams
mod Outbounds
