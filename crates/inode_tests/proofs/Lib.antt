mod Places
mod Storable
