-- For the private functions. No public contract cites this file.
use Rattle.refusals.specs.declared.Verdict.{Verdict}
use Rattle.sheet_reader.specs.declared.Reading.{Reading}

-- The verdict in a reader's answer.
abbrev pub said_by : Reading → Verdict
said_by read = record { refusal = read.refusal; place = read.place }
