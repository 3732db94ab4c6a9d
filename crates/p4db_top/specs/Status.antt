-- The exit status and the line on standard error of each note.
use Rattle.std.specs.Prelude.{ℕ, List, [], ◌++◌, codes, decimal}
use Rattle.session_draft.specs.declared.read.Section.{Section}
use Rattle.session_draft.specs.declared.read.Section.TheVariants as section
use Rattle.session_reader.specs.declared.fault.Limit.{Limit}
use Rattle.session_reader.specs.declared.fault.Limit.TheVariants as limit
use Rattle.session_reader.specs.declared.fault.OpAt.{OpAt}
use Rattle.session_reader.specs.declared.fault.SessionFault.{SessionFault}
use Rattle.session_reader.specs.declared.fault.SessionFault.TheVariants as fault
use Rattle.p4db_top.specs.declared.note.Note.{Note}
use Rattle.p4db_top.specs.declared.note.Note.TheVariants.{Done, Usage, ReadFault, InputTooLong, WriteFault, Session, LogFault, LogChanged, LogDamaged, LogTooLong, BadIntent, NoOrder, NoMemory}

abbrev pub status_of : Note → ℕ
status_of Done = 0
status_of Usage = 2
status_of ReadFault = 3
status_of InputTooLong = 3
status_of WriteFault = 4
status_of (Session fault) = 5
status_of (LogFault client) = 6
status_of (LogChanged client at) = 7
status_of (LogDamaged client at) = 7
status_of (LogTooLong client) = 7
status_of (BadIntent client seq) = 7
status_of NoOrder = 8
status_of NoMemory = 9

abbrev pub section_word : Section → List ℕ
section_word section.Whole = codes "whole"
section_word section.Shape = codes "shape"
section_word section.Tuples = codes "tuples"
section_word section.Layout = codes "layout"
section_word section.Tries = codes "tries"
section_word section.Clients = codes "clients"
section_word section.Schedule = codes "schedule"

abbrev pub limit_word : Limit → List ℕ
limit_word limit.Stages = codes "stages"
limit_word limit.Arrays = codes "arrays"
limit_word limit.Cells = codes "cells"
limit_word limit.Split = codes "split"
limit_word limit.Hosts = codes "hosts"
limit_word limit.Tuples = codes "tuples"
limit_word limit.Layout = codes "layout"
limit_word limit.Tries = codes "tries"
limit_word limit.Clients = codes "clients"
limit_word limit.Items = codes "items"
limit_word limit.Ops = codes "ops"
limit_word limit.Needs = codes "needs"

-- a client, its item and the operation
abbrev pub op_text : OpAt → List ℕ
op_text at = codes "c" ++ decimal at.client ++ codes " " ++ decimal at.seq ++ codes " op" ++ decimal at.op

-- a fault of a session: its number, its name and its place; a definition of a session's fault never gives the last one
abbrev pub fault_text : SessionFault → List ℕ
fault_text fault.NotJson = codes "1 NotJson"
fault_text (fault.BadShape section) = codes "2 BadShape " ++ section_word section
fault_text (fault.OverLimit limit) = codes "3 OverLimit " ++ limit_word limit
fault_text (fault.BadTuple at) = codes "4 BadTuple " ++ op_text at
fault_text (fault.BadPlace row) = codes "5 BadPlace row " ++ decimal row
fault_text (fault.PlaceTwice row) = codes "6 PlaceTwice row " ++ decimal row
fault_text (fault.TupleTwice at) = codes "7 TupleTwice " ++ op_text at
fault_text (fault.BadUse at) = codes "8 BadUse " ++ op_text at
fault_text (fault.BadTurn at) = codes "9 BadTurn " ++ op_text at
fault_text (fault.BadActor word) = codes "10 BadActor word " ++ decimal word
fault_text fault.NoMemory = codes "out of memory"

-- nothing is said where all went well
abbrev pub line_of : Note → List ℕ
line_of Done = []
line_of Usage = codes "p4db: usage: p4db run, race, recover, hot, layout, gen or drive\n"
line_of ReadFault = codes "p4db: read failed\n"
line_of InputTooLong = codes "p4db: input longer than 16777216 bytes\n"
line_of WriteFault = codes "p4db: write failed\n"
line_of (Session fault) = codes "p4db: session fault " ++ fault_text fault ++ codes "\n"
line_of (LogFault client) = codes "p4db: log of c" ++ decimal client ++ codes " failed\n"
line_of (LogChanged client at) = codes "p4db: log of c" ++ decimal client ++ codes " changed at " ++ decimal at ++ codes "\n"
line_of (LogDamaged client at) = codes "p4db: log of c" ++ decimal client ++ codes " damaged at " ++ decimal at ++ codes "\n"
line_of (LogTooLong client) = codes "p4db: log of c" ++ decimal client ++ codes " longer than 16777216 bytes\n"
line_of (BadIntent client seq) = codes "p4db: log of c" ++ decimal client ++ codes " item " ++ decimal seq ++ codes " names a place outside the layout\n"
line_of NoOrder = codes "p4db: no order fits the logs\n"
line_of NoMemory = codes "p4db: out of memory\n"
