mod Passes
mod Snapshots
