mod Wrapped
