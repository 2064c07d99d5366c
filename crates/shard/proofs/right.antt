-- One shard is right: what it sent is right against all that it applied, later events included.
pub mod Run
pub mod OneShard
pub mod RightSends
