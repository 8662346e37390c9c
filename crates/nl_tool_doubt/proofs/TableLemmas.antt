-- The table of entries, one by one, and what was said of its files.
use Rattle.std.proofs.Common.{◌≡◌, ◌++◌, ◌∷◌, [], ◌+◌, ◌<◌, ◌∙◌, ℕ, zero, suc, List, Some, Option, take, length, get_or, map, ap, sym, subst, refl, add-one}
use Rattle.std.specs.Prelude.{slice_get, IfSome}
use Rattle.std.specs.List.{All}
use Rattle.std.proofs.lemmas.List.{map-append, take_more}
use Rattle.std.proofs.lemmas.List.Elements.{All-push}
use Rattle.nl_fields.specs.declared.entry.Entry.{Entry}
use Rattle.nl_table.specs.History.{Began, Enter, History, Then, logged, plus, table}
use Rattle.nl_table.specs.Log.{Log, log_of}
use Rattle.nl_versions.specs.VersionOf.{as_five}
use Rattle.nl_versions.specs.Stamps.{stamps_of}
use Rattle.nl_versions.specs.declared.entries.Stamps.{Stamps}
use Rattle.nl_tool_doubt.specs.Doubts.{AreDoubts, AreLooked, IsDoubts, IsSaidOf}
use Rattle.nl_tool_doubt.specs.declared.doubts.Doubts.{Doubts}
use Rattle.nl_tool_doubt.specs.declared.files.FileState.{FileState}
use Rattle.nl_tool_doubt.specs.declared.files.Looked.{Looked}

logged-push : (version : ℕ) (es : List Entry) (e : Entry) → logged version (es ++ e ∷ []) ≡ Then (logged version es) (Enter e)
logged-push version es e = go (Began version) es
  where
    go : (h : History) (es : List Entry) → plus h (map Enter (es ++ e ∷ [])) ≡ Then (plus h (map Enter es)) (Enter e)
    go h [] = refl
    go h (x ∷ es) = go (Then h (Enter x)) es

pub table_entered : (version : ℕ) (es : List Entry) (i : ℕ) (e : Entry) → i < length es → e ≡ get_or es i e
    → table (Then (logged version (take i es)) (Enter e)) ≡ table (logged version (take (i + 1) es))
table_entered version es i e within is =
    ap table (sym (ap (logged version) (take_more es i e within ∙ ap (λ (x : Entry). take i es ++ x ∷ []) (sym is))
    ∙ logged-push version (take i es) e))

take_next : (es : List Entry) (i : ℕ) (e : Entry) → slice_get es i ≡ Some e → take (suc i) es ≡ take i es ++ e ∷ []
take_next [] i e is = cc
take_next (x ∷ xs) zero e is = let same : x ≡ e = cc in ap (λ (y : Entry). y ∷ []) same
take_next (x ∷ xs) (suc i) e is = ap (λ (rest : List Entry). x ∷ rest) (take_next xs i e is)

-- the file of the entry at a place was looked at behind those before it
pub one_looked : (es : List Entry) (i : ℕ) (l : Looked) (states : Option (List ℕ → FileState)) (old new : List Looked) → slice_get es i ≡ Some l.entry
    → AreLooked (take i es) states old → IfSome states (λ state_of. l.file ≡ state_of l.entry.name) → new ≡ old ++ l ∷ [] → AreLooked (take (i + 1) es) states new
one_looked es i l states old new at are said is = record {
  are = ap (map (λ (x : Looked). x.entry)) is ∙ map-append (λ (x : Looked). x.entry) old (l ∷ [])
      ∙ ap (λ (front : List Entry). front ++ l.entry ∷ []) are.are ∙ sym (take_next es i l.entry at) ∙ ap (λ (n : ℕ). take n es) (sym (add-one i));
  said = subst (All (IsSaidOf states)) (sym is) (All-push (IsSaidOf states) old l are.said said);
}

-- the doubts on a log, by what was read of it
pub is_doubts : (damaged : List Entry → List Entry) (log : List ℕ) (states : Option (List ℕ → FileState)) (doubts : Doubts) (version : ℕ)
    (stamps : Stamps) (lines entries found : List Entry) → log_of (as_five log) ≡ Log version lines → stamps ≡ stamps_of log
    → entries ≡ table (logged version lines) → found ≡ damaged entries → AreDoubts found stamps lines entries states doubts → IsDoubts damaged log states doubts
is_doubts damaged log states doubts version stamps lines entries found reads stamps_are tabled found_are are = record {
  version = version;
  lines = lines;
  reads = reads;
  are = subst (λ (es : List Entry). AreDoubts (damaged es) (stamps_of log) lines es states doubts) tabled
      (subst (λ (s : Stamps). AreDoubts (damaged entries) s lines entries states doubts) stamps_are
      (subst (λ (f : List Entry). AreDoubts f stamps lines entries states doubts) found_are are));
}
