pub mod FormedEnds
