mod FrontsFound
