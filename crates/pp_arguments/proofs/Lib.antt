mod CommandLines
mod DecimalWords
