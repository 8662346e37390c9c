-- The text of an event, part by part.
use Rattle.std.proofs.Common.{◌≡◌, ◌∙◌, ℕ, zero, suc, ◌+◌, ◌-◌, ◌/◌, ◌%◌, ◌<◌, ◌==◌, Bool, true, false, cond, List, [], ◌∷◌, ◌++◌, ap, arith, append_assoc, codes, refl, sym}
use Rattle.std.specs.Prelude.{decimal}
use Rattle.std.specs.Fmt.{digit_glyph, digits, digits_onto}
use Rattle.std.proofs.lemmas.Bool.{lt-ltb}
use Rattle.std.proofs.lemmas.Grind.{flat_map-append}
use Rattle.json.specs.Print.{escape, escape_byte}
use Rattle.json.proofs.Printed.Strings.{escape_byte_plain}
use Rattle.nl_builds.specs.declared.build.How.{How}
use Rattle.nl_builds.specs.declared.build.How.TheVariants.{AsWritten, FoundAgain}
use Rattle.nl_reports.specs.Events.{args_of, build_event, build_name, command_event, event_text, micros, running_event, shown}
use Rattle.nl_reports.specs.Jobs.{Job, first_name}
use Rattle.nl_reports.specs.Spans.{time_of}
use Rattle.nl_reports.specs.Sweep.{running}
use Rattle.nl_reports.specs.declared.trace.BuildEvent.{BuildEvent}
use Rattle.nl_reports.specs.declared.moments.Span.{Span}

-- digits stand in a text as they are
glyph_plain : (x : ℕ) → x < 10 → escape_byte (digit_glyph false x) ≡ digit_glyph false x ∷ []
glyph_plain x low =
    let is : digit_glyph false x ≡ 48 + x = ap (λ (b : Bool). cond b (48 + x) (87 + x)) (lt-ltb x 10 low) in
    rw is (escape_byte_plain (48 + x) (λ e. omega (arith, e)) (λ e. omega (arith, e, low)) (omega arith))

either_plain : (b : Bool) (xs ys : List ℕ) → escape xs ≡ xs → escape ys ≡ ys → escape (cond b xs ys) ≡ cond b xs ys
either_plain true xs ys first second = first
either_plain false xs ys first second = second

onto_plain : (k n : ℕ) (acc : List ℕ) → escape acc ≡ acc → escape (digits_onto k 10 false n acc) ≡ digits_onto k 10 false n acc
onto_plain zero n acc plain = plain
onto_plain (suc k) n acc plain =
    let d = digit_glyph false (n % 10) in
    let more : escape (d ∷ acc) ≡ d ∷ acc = λ i. glyph_plain (n % 10) (omega arith) i ++ plain i in
    either_plain (n / 10 == 0) (d ∷ acc) (digits_onto k 10 false (n / 10) (d ∷ acc)) more (onto_plain k (n / 10) (d ∷ acc) more)

digits_plain : (n : ℕ) → escape (decimal n) ≡ decimal n
unfolding digits
digits_plain n = onto_plain 64 n [] refl

-- and so does a build's name
name_plain : (n : ℕ) → escape (build_name n) ≡ build_name n
unfolding escape_byte
name_plain n =
    either_plain (n == 0) (codes "all builds") (codes "build " ++ decimal n) refl (ap (λ (l : List ℕ). codes "build " ++ l) (digits_plain n))

-- what stands behind a name in its object, and behind the object
name_told : (d e m n : List ℕ) → e ≡ d → ((e ++ 34 ∷ []) ++ m) ++ n ≡ d ++ (34 ∷ (m ++ n))
name_told d e m n is =
    ap (λ (l : List ℕ). ((l ++ 34 ∷ []) ++ m) ++ n) is ∙ ap (λ (l : List ℕ). l ++ n) (append_assoc d (34 ∷ []) m) ∙ append_assoc d (34 ∷ m) n

abbrev process : ℕ → List ℕ
process number = codes ",\"name\":\"process_name\",\"ph\":\"M\",\"pid\":" ++ (decimal number ++ codes "}")

abbrev written_text : List ℕ → ℕ → List ℕ
written_text name number = codes "{\"args\":{\"name\":\"" ++ (name ++ (codes "\",\"rewritten\":false},\"name\":\"process_name\",\"ph\":\"M\",\"pid\":"
    ++ (decimal number ++ codes "}")))

written_is : (number began : ℕ) → written_text (build_name number) number ≡ event_text (build_event (record { number = number; began = began; how = AsWritten }))
unfolding event_text escape_byte
written_is number began =
    ap (λ (l : List ℕ). codes "{\"args\":{\"name\":\"" ++ l)
    (sym (name_told (build_name number) (escape (build_name number)) (codes ",\"rewritten\":false}") (process number) (name_plain number)))

abbrev again_text : List ℕ → ℕ → ℕ → List ℕ
again_text name number taken = codes "{\"args\":{\"name\":\"" ++ (name ++ (codes ", found again\",\"rewritten\":true,\"taken\":"
    ++ (decimal taken ++ (codes "},\"name\":\"process_name\",\"ph\":\"M\",\"pid\":" ++ (decimal number ++ codes "}")))))

again_is : (number began taken : ℕ)
    → again_text (build_name number) number taken ≡ event_text (build_event (record { number = number; began = began; how = FoundAgain taken }))
unfolding event_text escape_byte
again_is number began taken =
    let found = codes ", found again" in
    let plain : escape (build_name number ++ found) ≡ build_name number ++ found =
    flat_map-append escape_byte (build_name number) found ∙ ap (λ (l : List ℕ). l ++ found) (name_plain number) in
    let told = codes ",\"rewritten\":true,\"taken\":" in
    ap (λ (l : List ℕ). codes "{\"args\":{\"name\":\"" ++ l)
    (sym (name_told (build_name number ++ found) (escape (build_name number ++ found)) (told ++ (decimal taken ++ 125 ∷ [])) (process number) plain
    ∙ append_assoc (build_name number) found (34 ∷ (told ++ ((decimal taken ++ 125 ∷ []) ++ process number)))
    ∙ ap (λ (l : List ℕ). build_name number ++ (found ++ (34 ∷ (told ++ l)))) (append_assoc (decimal taken) (125 ∷ []) (process number))))

-- how a build is known, behind its name; and its event
abbrev pub known_text : How → List ℕ
known_text AsWritten = codes "\",\"rewritten\":false"
known_text (FoundAgain taken) = codes ", found again\",\"rewritten\":true,\"taken\":" ++ decimal taken

pub build_told : (b : BuildEvent) → codes "{\"args\":{\"name\":\"" ++ (build_name b.number ++ (known_text b.how
    ++ ((codes "},\"name\":\"process_name\",\"ph\":\"M\",\"pid\":" ++ decimal b.number) ++ codes "}"))) ≡ event_text (build_event b)
build_told b = by b.how
  where
    by : (h : How) → codes "{\"args\":{\"name\":\"" ++ (build_name b.number ++ (known_text h
        ++ ((codes "},\"name\":\"process_name\",\"ph\":\"M\",\"pid\":" ++ decimal b.number) ++ codes "}")))
        ≡ event_text (build_event (record { number = b.number; began = b.began; how = h }))
    by AsWritten = written_is b.number b.began
    by (FoundAgain taken) = again_is b.number b.began taken

abbrev pub end_text : ℕ → ℕ → ℕ → List ℕ
end_text number tid ts = codes ",\"ph\":\"X\",\"pid\":" ++ (decimal number ++ (codes ",\"tid\":" ++ (decimal tid ++ (codes ",\"ts\":" ++ (decimal ts ++ codes "}")))))

pub command_is : (b : BuildEvent) (lane : ℕ) (j : Job) → codes ",{\"args\":" ++ (event_text (args_of j) ++ (codes ",\"dur\":"
    ++ (decimal (micros (time_of j.span)) ++ (codes ",\"name\":" ++ (event_text (shown (first_name j.outputs))
    ++ end_text b.number (lane + 1) (micros (j.span.began - b.began))))))) ≡ 44 ∷ event_text (command_event b lane j)
unfolding event_text escape_byte
command_is b lane j = refl

abbrev pub running_text : ℕ → ℕ → ℕ → List ℕ
running_text number count ts = codes ",{\"args\":{\"commands\":" ++ decimal count ++ codes "},\"name\":\"running\",\"ph\":\"C\",\"pid\":"
    ++ decimal number ++ codes ",\"ts\":" ++ decimal ts ++ codes "}"

pub running_is : (b : BuildEvent) (cs : List Span) (at : ℕ) → running_text b.number (running cs at) (micros (at - b.began))
    ≡ 44 ∷ event_text (running_event b cs at)
unfolding event_text escape_byte
running_is b cs at = simp append_assoc
