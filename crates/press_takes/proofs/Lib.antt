pub mod FormedTakes
