mod Dates
