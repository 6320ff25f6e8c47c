mod Rises
