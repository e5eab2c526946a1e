mod Zones
