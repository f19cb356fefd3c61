mod Closing
mod Replicas
