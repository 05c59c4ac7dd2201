mod Spreads
