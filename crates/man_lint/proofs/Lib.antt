mod PageLines
