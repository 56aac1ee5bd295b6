mod Handlers
