-- A word of a script is that of one call, or of one kind of line.
use Rattle.std.proofs.Common.{◌≡◌, ◌∙◌, ℕ, List, Option, None, Some, ap, codes, refl, sym}
use Rattle.std.specs.Prelude.{if◌then◌else◌}
use Rattle.std.specs.Str.{IsUtf8, bytes_eq}
use Rattle.nl_folder.specs.declared.choices.Call.{Call}
use Rattle.nl_folder.specs.declared.choices.Call.TheVariants.{ReadLog, AppendLog, CutLog, SyncLog, StartScratch, AppendScratch, SyncScratch}
use Rattle.nl_folder.specs.declared.choices.Call.TheVariants.{Replace, Any}
use Rattle.nl_tool_change.specs.Replay.{text_of_word, word_of}
use Rattle.nl_tool_change.specs.declared.script.Word.{Word}
use Rattle.nl_tool_change.specs.declared.script.Word.TheVariants as word

-- what a text is the word of
abbrev call_in : List ℕ → Option Call
call_in text =
    if bytes_eq text (codes "read_log") then Some ReadLog else
    if bytes_eq text (codes "append_log") then Some AppendLog else
    if bytes_eq text (codes "cut_log") then Some CutLog else
    if bytes_eq text (codes "sync_log") then Some SyncLog else
    if bytes_eq text (codes "start_scratch") then Some StartScratch else
    if bytes_eq text (codes "append_scratch") then Some AppendScratch else
    if bytes_eq text (codes "sync_scratch") then Some SyncScratch else
    if bytes_eq text (codes "replace") then Some Replace else
    if bytes_eq text (codes "any") then Some Any else
    None

call_read : (met : Call) → call_in (word_of met) ≡ Some met
call_read ReadLog = refl
call_read AppendLog = refl
call_read CutLog = refl
call_read SyncLog = refl
call_read StartScratch = refl
call_read AppendScratch = refl
call_read SyncScratch = refl
call_read Replace = refl
call_read Any = refl

-- a text is the word of one alone
pub one_call : (text : List ℕ) (met other : Call) → text ≡ word_of met → text ≡ word_of other → Some met ≡ Some other
one_call text met other e f = sym (call_read met) ∙ (ap call_in (sym e ∙ f) ∙ call_read other)

-- and a text that is none of these, of no one
pub no_call : (text : List ℕ)
    → (text ≡ codes "read_log" → ⊥) → (text ≡ codes "append_log" → ⊥) → (text ≡ codes "cut_log" → ⊥)
    → (text ≡ codes "sync_log" → ⊥) → (text ≡ codes "start_scratch" → ⊥) → (text ≡ codes "append_scratch" → ⊥)
    → (text ≡ codes "sync_scratch" → ⊥) → (text ≡ codes "replace" → ⊥) → (text ≡ codes "any" → ⊥)
    → (met : Call) → text ≡ word_of met → None ≡ Some met
no_call text a b c d e f g h i ReadLog is = absurd (a is)
no_call text a b c d e f g h i AppendLog is = absurd (b is)
no_call text a b c d e f g h i CutLog is = absurd (c is)
no_call text a b c d e f g h i SyncLog is = absurd (d is)
no_call text a b c d e f g h i StartScratch is = absurd (e is)
no_call text a b c d e f g h i AppendScratch is = absurd (f is)
no_call text a b c d e f g h i SyncScratch is = absurd (g is)
no_call text a b c d e f g h i Replace is = absurd (h is)
no_call text a b c d e f g h i Any is = absurd (i is)

-- what a line's word is
abbrev word_in : List ℕ → Option Word
word_in text =
    if bytes_eq text (codes "writes") then Some word.Writes else
    if bytes_eq text (codes "fates") then Some word.Fates else
    if bytes_eq text (codes "tails") then Some word.Tails else
    if bytes_eq text (codes "fuse") then Some word.Fuse else
    if bytes_eq text (codes "open") then Some word.Open else
    if bytes_eq text (codes "recompact") then Some word.Recompact else
    if bytes_eq text (codes "record") then Some word.Record else
    if bytes_eq text (codes "restat") then Some word.Restat else
    if bytes_eq text (codes "sync") then Some word.Sync else
    if bytes_eq text (codes "stop") then Some word.Stop else
    if bytes_eq text (codes "crash") then Some word.Crash else
    None

word_read : (met : Word) → word_in (text_of_word met) ≡ Some met
word_read word.Writes = refl
word_read word.Fates = refl
word_read word.Tails = refl
word_read word.Fuse = refl
word_read word.Open = refl
word_read word.Recompact = refl
word_read word.Record = refl
word_read word.Restat = refl
word_read word.Sync = refl
word_read word.Stop = refl
word_read word.Crash = refl

-- a text is the word of one alone
pub one_word : (text : List ℕ) (met other : Word) → text ≡ text_of_word met → text ≡ text_of_word other → Some met ≡ Some other
one_word text met other e f = sym (word_read met) ∙ (ap word_in (sym e ∙ f) ∙ word_read other)

-- and a text that is none of these, of no one
pub no_word : (text : List ℕ)
    → (text ≡ codes "writes" → ⊥) → (text ≡ codes "fates" → ⊥) → (text ≡ codes "tails" → ⊥)
    → (text ≡ codes "fuse" → ⊥) → (text ≡ codes "open" → ⊥) → (text ≡ codes "recompact" → ⊥)
    → (text ≡ codes "record" → ⊥) → (text ≡ codes "restat" → ⊥) → (text ≡ codes "sync" → ⊥)
    → (text ≡ codes "stop" → ⊥) → (text ≡ codes "crash" → ⊥)
    → (met : Word) → text ≡ text_of_word met → None ≡ Some met
no_word text a b c d e f g h i j k word.Writes is = absurd (a is)
no_word text a b c d e f g h i j k word.Fates is = absurd (b is)
no_word text a b c d e f g h i j k word.Tails is = absurd (c is)
no_word text a b c d e f g h i j k word.Fuse is = absurd (d is)
no_word text a b c d e f g h i j k word.Open is = absurd (e is)
no_word text a b c d e f g h i j k word.Recompact is = absurd (f is)
no_word text a b c d e f g h i j k word.Record is = absurd (g is)
no_word text a b c d e f g h i j k word.Restat is = absurd (h is)
no_word text a b c d e f g h i j k word.Sync is = absurd (i is)
no_word text a b c d e f g h i j k word.Stop is = absurd (j is)
no_word text a b c d e f g h i j k word.Crash is = absurd (k is)

-- each word is text
pub call_is_text : (met : Call) → IsUtf8 (word_of met)
unfolding lib.Utf8.encode
call_is_text ReadLog = (codes "read_log", (refl, refl))
call_is_text AppendLog = (codes "append_log", (refl, refl))
call_is_text CutLog = (codes "cut_log", (refl, refl))
call_is_text SyncLog = (codes "sync_log", (refl, refl))
call_is_text StartScratch = (codes "start_scratch", (refl, refl))
call_is_text AppendScratch = (codes "append_scratch", (refl, refl))
call_is_text SyncScratch = (codes "sync_scratch", (refl, refl))
call_is_text Replace = (codes "replace", (refl, refl))
call_is_text Any = (codes "any", (refl, refl))

-- each word is text
pub word_is_text : (met : Word) → IsUtf8 (text_of_word met)
unfolding lib.Utf8.encode
word_is_text word.Writes = (codes "writes", (refl, refl))
word_is_text word.Fates = (codes "fates", (refl, refl))
word_is_text word.Tails = (codes "tails", (refl, refl))
word_is_text word.Fuse = (codes "fuse", (refl, refl))
word_is_text word.Open = (codes "open", (refl, refl))
word_is_text word.Recompact = (codes "recompact", (refl, refl))
word_is_text word.Record = (codes "record", (refl, refl))
word_is_text word.Restat = (codes "restat", (refl, refl))
word_is_text word.Sync = (codes "sync", (refl, refl))
word_is_text word.Stop = (codes "stop", (refl, refl))
word_is_text word.Crash = (codes "crash", (refl, refl))
