-- Entries that stand for outputs while their command runs (docs/FORMAT.md, "Intents"), and those that stand again when it doesn't.
use Rattle.std.specs.Prelude.{ℕ, ◌==◌, ◌&&◌, ◌||◌, Bool, false, List, [], ◌∷◌, ◌++◌, Option, None, Some, filter, if◌then◌else◌}
use Rattle.std.specs.List.{list_any}
use Rattle.std.specs.Ordering.{int_eq}
use Rattle.nl_fields.specs.Intent.{is_intent}
use Rattle.nl_fields.specs.declared.entry.Entry.{Entry}
use Rattle.nl_table.specs.Table.{all_entered_table, entered_table, entry_named, entry_names}

abbrev pub any_intent : List Entry → Bool
any_intent es = list_any is_intent es

-- their last entry is an intent, because their command didn't end; in the order of the table of last entries
abbrev pub unfinished : List Entry → List (List ℕ)
unfinished entries = entry_names (filter is_intent (all_entered_table entries []))

abbrev pub is_some_intent : Option Entry → Bool
is_some_intent None = false
is_some_intent (Some e) = is_intent e

-- but for its name
abbrev pub is_some_equal : Option Entry → Entry → Bool
is_some_equal None e = false
is_some_equal (Some old) e = int_eq old.start_ms e.start_ms && int_eq old.end_ms e.end_ms && int_eq old.mtime e.mtime && old.hash == e.hash

-- its name's last entry is an intent, and the one that stood before equals it
abbrev pub is_withdrawn : List Entry → List Entry → Entry → Bool
is_withdrawn last stood e = is_some_intent (entry_named last e.name) && is_some_equal (entry_named stood e.name) e

abbrev pub is_of_none : List Entry → List Entry → Entry → Bool
is_of_none last stood e = is_intent e || is_withdrawn last stood e

abbrev pub kept_of : List Entry → List Entry → Entry → List Entry
kept_of last stood e = if is_of_none last stood e then [] else e ∷ []

-- none if an entry of that name came before
abbrev pub name_of_new : Option Entry → Entry → List (List ℕ)
name_of_new None e = e.name ∷ []
name_of_new (Some old) e = []

-- the last entry of each name that is no intent
abbrev pub stood_with : Entry → List Entry → List Entry
stood_with e stood = if is_intent e then stood else entered_table e stood

-- the entries that are of commands
abbrev pub recorded_from : List Entry → List Entry → List Entry → List Entry
recorded_from last stood [] = []
recorded_from last stood (e ∷ es) = kept_of last stood e ++ recorded_from (entered_table e last) (stood_with e stood) es

abbrev pub recorded : List Entry → List Entry
recorded es = recorded_from [] [] es
