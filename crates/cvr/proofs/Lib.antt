mod Ended
