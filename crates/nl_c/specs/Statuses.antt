-- The statuses of the library's calls: docs/LIBRARY.md.
use Rattle.std.specs.Prelude.{ℕ, ◌+◌, ◌-◌, Result, Ok, Err, List, ◌∷◌, ◌++◌, ◌==◌, if◌then◌else◌, codes, drop, length, min, take}
use Rattle.nl_session.specs.declared.fault.LogFault.{LogFault}
use Rattle.nl_session.specs.declared.fault.LogFault.TheVariants as log_fault

abbrev pub ok : ℕ
ok = 0

abbrev pub no_handle : ℕ
no_handle = 1

abbrev pub not_a_log : ℕ
not_a_log = 2

abbrev pub other_version : ℕ
other_version = 3

abbrev pub out_of_memory : ℕ
out_of_memory = 4

abbrev pub not_found : ℕ
not_found = 5

abbrev pub no_room : ℕ
no_room = 6

abbrev pub not_open : ℕ
not_open = 7

abbrev pub already_open : ℕ
already_open = 8

abbrev pub broken : ℕ
broken = 9

abbrev pub negative_time : ℕ
negative_time = 10

abbrev pub fault : ℕ
fault = 11

abbrev pub bad_name : ℕ
bad_name = 12

-- only the writer of files answers this one
abbrev pub locked : ℕ
locked = 13

abbrev pub forked : ℕ
forked = 14

abbrev pub status_of_fault : LogFault → ℕ
status_of_fault log_fault.NotOpen = not_open
status_of_fault log_fault.AlreadyOpen = already_open
status_of_fault log_fault.Broken = broken
status_of_fault (log_fault.NegativeTime place) = negative_time
status_of_fault log_fault.NotALog = not_a_log
status_of_fault log_fault.OtherVersion = other_version
status_of_fault log_fault.OutOfMemory = out_of_memory
status_of_fault log_fault.Fault = fault

abbrev pub status_of_answer : Result (Unit {0}) LogFault → ℕ
status_of_answer (Ok done) = ok
status_of_answer (Err why) = status_of_fault why

abbrev pub if_room : {E : Type 0} → Result (Unit {0}) E → ℕ
if_room (Ok done) = ok
if_room (Err why) = out_of_memory

-- the place of a pair that was refused, and else the one before
abbrev pub place_of : LogFault → ℕ → ℕ
place_of (log_fault.NegativeTime place) old = place
place_of log_fault.NotOpen old = old
place_of log_fault.AlreadyOpen old = old
place_of log_fault.Broken old = old
place_of log_fault.NotALog old = old
place_of log_fault.OtherVersion old = old
place_of log_fault.OutOfMemory old = old
place_of log_fault.Fault old = old

abbrev pub place_in : Result (Unit {0}) LogFault → ℕ → ℕ
place_in (Ok done) old = old
place_in (Err why) old = place_of why old

abbrev pub status_text : ℕ → List ℕ
status_text status = if status == ok then codes "ok"
    else (if status == no_handle then codes "no log is loaded"
    else (if status == not_a_log then codes "not a ninja log"
    else (if status == other_version then codes "log version not supported"
    else (if status == out_of_memory then codes "out of memory"
    else (if status == not_found then codes "not found"
    else (if status == no_room then codes "the buffer is too short"
    else (if status == not_open then codes "the log is not open"
    else (if status == already_open then codes "the log is open already"
    else (if status == broken then codes "the log is broken"
    else (if status == negative_time then codes "negative time"
    else (if status == fault then codes "a file failed"
    else (if status == bad_name then codes "bad name"
    else (if status == locked then codes "another process has the log"
    else (if status == forked then codes "the parent process opened the log" else codes "unknown status"))))))))))))))

-- the first n bytes of a text at the beginning of a buffer, and then a NUL
abbrev pub written_in : ℕ → List ℕ → List ℕ → List ℕ
written_in n text buf = take n text ++ 0 ∷ drop (n + 1) buf

-- the length of a text, and a buffer with as much of the text as it has room for beside the NUL
abbrev pub text_in : List ℕ → List ℕ → ℕ × List ℕ
text_in text buf = (length text, if length buf == 0 then buf else written_in (min (length text) (length buf - 1)) text buf)
