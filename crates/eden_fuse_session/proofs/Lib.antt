mod Rooms
mod Taking
