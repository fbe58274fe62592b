mod OwnRuns
