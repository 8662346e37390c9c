-- The definitions of the hash against std's words for the machine's operations.
use Rattle.std.proofs.Common.{◌≡◌, ℕ, zero, suc, ◌+◌, ◌-◌, ◌*◌, ◌/◌, ◌%◌, ◌^◌, ◌<◌, ◌≤◌, List, [], ◌∷◌, ◌++◌, length, take, drop, refl, sym}
use Rattle.std.proofs.Common.{◌∙◌, ap, ap₂, subst, arith, append_assoc, length-drop, length-append, w64}
use Rattle.std.proofs.lemmas.List.{take-append-drop, length-take-le, length-replicate, drop-drop}
use Rattle.std.proofs.lemmas.List.Elements.{All-cons, All-nil, All-head, All-tail}
use Rattle.std.proofs.Math.Seq.{take-append_seam, drop-append_seam}
use Rattle.std.proofs.Math.Nat.{pow-suc, suc-mul}
use Rattle.std.specs.Int.Bits.{xor_step, differ}
use Rattle.std.specs.Int.{from_le_bytes}
use Rattle.std.specs.Prelude.{bit_xor, All, replicate, fold}
use Rattle.std.specs.List.{concat}
use Rattle.std.specs.Simd.{first_chunks}
use Rattle.nl_fields.specs.CommandHash.{differing, xor, little_endian, mixed, times, with_group, with_rest, seed, IsHash, hash_of}

differ_is : (a b : ℕ) → differ (a % 2) (b % 2) ≡ (a % 2 + b % 2) % 2
differ_is a b = small (a % 2) (b % 2) (omega arith) (omega arith)
  where
    small : (x y : ℕ) → x < 2 → y < 2 → differ x y ≡ (x + y) % 2
    small zero zero p q = refl
    small zero (suc zero) p q = refl
    small (suc zero) zero p q = refl
    small (suc zero) (suc zero) p q = refl
    small zero (suc (suc y)) p q = absurd (omega arith)
    small (suc zero) (suc (suc y)) p q = absurd (omega arith)
    small (suc (suc x)) y p q = absurd (omega arith)

differing_is : (k a b : ℕ) → a < 2 ^ k → b < 2 ^ k → bit_xor a b ≡ differing k a b
unfolding differing
differing_is zero a b fits_a fits_b = rw (nothing a fits_a, nothing b fits_b) refl
  where
    nothing : (n : ℕ) → n < 2 ^ 0 → n ≡ 0
    nothing n fits = omega arith
differing_is (suc k) a b fits_a fits_b =
    let halves = differing_is k (a / 2) (b / 2) (half k a fits_a) (half k b fits_b) in
    xor_step a b ∙ omega (arith, halves, differ_is a b)
  where
    half : (k n : ℕ) → n < 2 ^ suc k → n / 2 < 2 ^ k
    half k n fits = let wider : n < 2 ^ k * 2 = rw (← pow-suc 2 k) fits in omega arith

pub xor_is : (a b : ℕ) → a < 2 ^ 64 → b < 2 ^ 64 → bit_xor a b ≡ xor a b
xor_is a b fits_a fits_b = differing_is 64 a b fits_a fits_b

pub little_endian_is : (bytes : List ℕ) → length bytes ≡ 8 → from_le_bytes w64 bytes ≡ little_endian bytes
little_endian_is (a ∷ b ∷ c ∷ d ∷ e ∷ f ∷ g ∷ h ∷ []) eight = omega arith
little_endian_is [] eight = absurd (omega arith)
little_endian_is (a ∷ []) eight = absurd (omega arith)
little_endian_is (a ∷ b ∷ []) eight = absurd (omega arith)
little_endian_is (a ∷ b ∷ c ∷ []) eight = absurd (omega arith)
little_endian_is (a ∷ b ∷ c ∷ d ∷ []) eight = absurd (omega arith)
little_endian_is (a ∷ b ∷ c ∷ d ∷ e ∷ []) eight = absurd (omega arith)
little_endian_is (a ∷ b ∷ c ∷ d ∷ e ∷ f ∷ []) eight = absurd (omega arith)
little_endian_is (a ∷ b ∷ c ∷ d ∷ e ∷ f ∷ g ∷ []) eight = absurd (omega arith)
little_endian_is (a ∷ b ∷ c ∷ d ∷ e ∷ f ∷ g ∷ h ∷ i ∷ rest) eight = absurd (omega arith)

-- zeros at the end add nothing
pub little_endian-append_zeros : (bytes zeros : List ℕ) → little_endian zeros ≡ 0 → little_endian (bytes ++ zeros) ≡ little_endian bytes
little_endian-append_zeros [] zeros none = none
little_endian-append_zeros (byte ∷ bytes) zeros none = ap (λ n. byte + 256 * n) (little_endian-append_zeros bytes zeros none)

-- the groups of 8 and what is after them are the whole
pub groups_and_rest : (k : ℕ) (bytes : List ℕ) → bytes ≡ concat (first_chunks 8 k bytes) ++ drop (k * 8) bytes
groups_and_rest zero bytes = refl
groups_and_rest (suc k) bytes =
    let behind : drop (suc k * 8) bytes ≡ drop (k * 8) (drop 8 bytes) = ap (λ n. drop n bytes) (omega (arith, suc-mul k 8))
    ∙ sym (drop-drop (k * 8) 8 bytes) in
    rw behind (sym (take-append-drop 8 bytes) ∙ ap (λ (s : List ℕ). take 8 bytes ++ s) (groups_and_rest k (drop 8 bytes))
    ∙ sym (append_assoc (take 8 bytes) (concat (first_chunks 8 k (drop 8 bytes))) (drop (k * 8) (drop 8 bytes))))

pub groups_whole : (k : ℕ) (bytes : List ℕ) → k * 8 ≤ length bytes → All (λ group. length group ≡ 8) (first_chunks 8 k bytes)
groups_whole zero bytes fits = All-nil (λ group. length group ≡ 8)
groups_whole (suc k) bytes fits =
    let more : 8 + k * 8 ≤ length bytes = omega (arith, suc-mul k 8) in
    All-cons (λ group. length group ≡ 8) (take 8 bytes) (first_chunks 8 k (drop 8 bytes)) (length-take-le 8 bytes (omega arith))
    (groups_whole k (drop 8 bytes) (omega (arith, length-drop 8 bytes)))

pub group_hashed : (hash : ℕ) (group : List ℕ) (k one two three result : ℕ) → hash < 2 ^ 64 → three < 2 ^ 64 → length group ≡ 8 →
    k ≡ from_le_bytes w64 group → one ≡ times k → two ≡ mixed one → three ≡ times two → result ≡ times (bit_xor hash three)
    → result ≡ with_group hash group
group_hashed hash group k one two three result fits fits_three eight read at_one at_two at_three at_result =
    rw (at_result, xor_is hash three fits fits_three, at_three, at_two, at_one, read, little_endian_is group eight) refl

no_bytes : (n : ℕ) → little_endian (replicate n 0) ≡ 0
no_bytes zero = refl
no_bytes (suc n) = omega (arith, no_bytes n)

-- the rest with zeros after it
pub rest_hashed : (hash : ℕ) (rest group : List ℕ) (k result : ℕ) → hash < 2 ^ 64 → k < 2 ^ 64 → 0 < length rest → length rest < 8 → group
    ≡ rest ++ replicate (8 - length rest) 0 → k ≡ from_le_bytes w64 group → result ≡ times (bit_xor hash k) → result ≡ with_rest hash rest
rest_hashed hash [] group k result fits fits_k some short padded read at_result = absurd (omega arith)
rest_hashed hash (byte ∷ bytes) group k result fits fits_k some short padded read at_result =
    let zeros : List ℕ = replicate (8 - length (byte ∷ bytes)) 0 in
    let eight : length group ≡ 8 = rw padded (simp (length-append, length-replicate) (omega arith)) in
    let same : k ≡ little_endian (byte ∷ bytes) = read ∙ little_endian_is group eight ∙ ap little_endian padded
    ∙ little_endian-append_zeros (byte ∷ bytes) zeros (no_bytes (8 - length (byte ∷ bytes))) in
    at_result ∙ ap times (xor_is hash k fits fits_k ∙ ap (λ n. xor hash n) same)

pub hash_is : (bytes : List ℕ) (groups : List (List ℕ)) (rest : List ℕ) (grouped rested first second result : ℕ) →
    groups ≡ first_chunks 8 (length bytes / 8) bytes → rest ≡ drop (length bytes / 8 * 8) bytes → length rest ≡ length bytes % 8 →
    grouped ≡ fold with_group (xor seed (times (length bytes))) groups →
    rested ≡ with_rest grouped rest → first ≡ mixed rested → second ≡ times first → result ≡ mixed second → IsHash bytes result
hash_is bytes groups rest grouped rested first second result at_groups at_rest at_len at_grouped at_rested at_first at_second at_result =
    record {
      groups = groups;
      rest = rest;
      parts = rw (at_groups, at_rest) (groups_and_rest (length bytes / 8) bytes);
      whole = subst (All (λ group. length group ≡ 8)) (sym at_groups) (groups_whole (length bytes / 8) bytes (omega arith));
      short = omega (arith, at_len);
      value = at_result ∙ ap mixed (at_second ∙ ap times (at_first ∙ ap mixed (at_rested ∙ ap (λ n. with_rest n rest) at_grouped)));
    }

take_front : (g rest : List ℕ) → length g ≡ 8 → take 8 (g ++ rest) ≡ g
take_front g rest eight = ap (λ n. take n (g ++ rest)) (sym eight) ∙ take-append_seam g rest

drop_front : (g rest : List ℕ) → length g ≡ 8 → drop 8 (g ++ rest) ≡ rest
drop_front g rest eight = ap (λ n. drop n (g ++ rest)) (sym eight) ∙ drop-append_seam g rest

too_long : (h : List ℕ) (hs : List (List ℕ)) (r s : List ℕ) → length h ≡ 8 → length r < 8 → r ≡ concat (h ∷ hs) ++ s → ⊥
too_long h hs r s eight short same = omega (arith, ap length same, length-append (h ++ concat hs) s, length-append h (concat hs))

-- whole groups and a shorter rest stand in one way
pub same_groups : (gs hs : List (List ℕ)) (r s : List ℕ) → All (λ group. length group ≡ 8) gs → All (λ group. length group ≡ 8) hs
    → length r < 8 → length s < 8 → concat gs ++ r ≡ concat hs ++ s → (gs ≡ hs) × (r ≡ s)
same_groups [] [] r s left right short_r short_s same = (refl, same)
same_groups [] (h ∷ hs) r s left right short_r short_s same =
    absurd (too_long h hs r s (All-head (λ group. length group ≡ 8) h hs right) short_r same)
same_groups (g ∷ gs) [] r s left right short_r short_s same =
    absurd (too_long g gs s r (All-head (λ group. length group ≡ 8) g gs left) short_s (sym same))
same_groups (g ∷ gs) (h ∷ hs) r s left right short_r short_s same =
    let eight_g : length g ≡ 8 = All-head (λ group. length group ≡ 8) g gs left in
    let eight_h : length h ≡ 8 = All-head (λ group. length group ≡ 8) h hs right in
    let whole : g ++ (concat gs ++ r) ≡ h ++ (concat hs ++ s) = sym (append_assoc g (concat gs) r) ∙ same ∙ append_assoc h (concat hs) s in
    let fronts : g ≡ h = sym (take_front g (concat gs ++ r) eight_g) ∙ ap (λ (t : List ℕ). take 8 t) whole
    ∙ take_front h (concat hs ++ s) eight_h in
    let behind : concat gs ++ r ≡ concat hs ++ s = sym (drop_front g (concat gs ++ r) eight_g) ∙ ap (λ (t : List ℕ). drop 8 t) whole
    ∙ drop_front h (concat hs ++ s) eight_h in
    let rest = same_groups gs hs r s (All-tail (λ group. length group ≡ 8) g gs left)
    (All-tail (λ group. length group ≡ 8) h hs right) short_r short_s behind in
    (let groups : gs ≡ hs = rest.0 in cc, rest.1)

-- a command has one hash
pub one_hash : (bytes : List ℕ) (h k : ℕ) → IsHash bytes h → IsHash bytes k → h ≡ k
one_hash bytes h k left right =
    let parts = same_groups left.groups right.groups left.rest right.rest left.whole right.whole left.short right.short
    (sym left.parts ∙ right.parts) in
    left.value
    ∙ ap₂ (λ (gs : List (List ℕ)) (r : List ℕ). mixed (times (mixed (with_rest (fold with_group (xor seed (times (length bytes))) gs) r))))
    parts.0 parts.1 ∙ sym right.value

pub IsHash-hash_of : (bytes : List ℕ) → IsHash bytes (hash_of bytes)
unfolding hash_of
IsHash-hash_of bytes = record {
  groups = first_chunks 8 (length bytes / 8) bytes;
  rest = drop (length bytes / 8 * 8) bytes;
  parts = groups_and_rest (length bytes / 8) bytes;
  whole = groups_whole (length bytes / 8) bytes (omega arith);
  short = omega (arith, length-drop (length bytes / 8 * 8) bytes);
  value = refl;
}

pub is_hash_of : (bytes : List ℕ) (h : ℕ) → IsHash bytes h → h ≡ hash_of bytes
is_hash_of bytes h is = one_hash bytes h (hash_of bytes) is (IsHash-hash_of bytes)
