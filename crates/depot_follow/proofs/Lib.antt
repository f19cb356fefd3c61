mod Made
mod Opened
mod Followed
mod Endings
mod Copied
mod Tables
