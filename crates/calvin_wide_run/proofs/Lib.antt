mod AtNodes
