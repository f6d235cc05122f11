-- Laws of formats, by induction over them: what is read is what parts spell, what fails is the first part that fails, and fewer bytes are Short.
use Rattle.std.proofs.Common.{◌≡◌, ℕ, ◌+◌, ◌-◌, ◌<◌, ◌≤◌, Bool, true, false, List, [], ◌∷◌, ◌++◌, length, take, drop, Option, Some, None, Result, Ok, Err, refl, sym, ap, ◌∙◌, append_assoc, arith, inl, inr}
use Rattle.std.specs.Prelude.{nat_lt, if◌then◌else◌, ◌⊎◌}
use Rattle.std.proofs.lemmas.Bool.{ltb-true, ltb-false, lt-ltb, le-ltb}
use Rattle.std.proofs.lemmas.List.{length-append, length-take-le, take-append-drop}
use Rattle.std.proofs.Math.Seq.{take-append_seam, drop-append_seam, take-append-add}
use Rattle.uadp_header.specs.declared.fault.HeaderFault.{HeaderFault}
use Rattle.uadp_header.specs.declared.fault.HeaderFault.TheVariants.{Short}
use Rattle.uadp_header.specs.Formats.{Format, Told, Part, ◌>>=◌, passing, read, Leads, joined, Spells, IsFaultOf, Fails}

-- one reading after another
abbrev pub then_read : {A B : Type 0} → Result A HeaderFault → (A → Result B HeaderFault) → Result B HeaderFault
then_read (Ok x) more = more x
then_read (Err fault) more = Err fault

branch : {A B : Type 0} (short : Bool) (fault : Option HeaderFault) (r : Result A HeaderFault) (more : A → Result B HeaderFault)
    → (if short then Err Short else passing fault (then_read r more)) ≡ then_read (if short then Err Short else passing fault r) more
branch true fault r more = refl
branch false None r more = refl
branch false (Some f) r more = refl

pub read-then : {A B : Type 0} (format : Format A) (after : A → Format B) (bytes : List ℕ) → read (format >>= after) bytes ≡ then_read (read format bytes) (λ x. read (after x.0) x.1)
unfolding ◌>>=◌ read
read-then (Told told) after bytes = refl
read-then {A} {B} (Part size refused next) after bytes =
    ap (λ (r : Result (B × List ℕ) HeaderFault). if nat_lt (length bytes) size then Err Short else passing (refused (take size bytes)) r) (read-then (next (take size bytes)) after (drop size bytes))
    ∙ branch (nat_lt (length bytes) size) (refused (take size bytes)) (read (next (take size bytes)) (drop size bytes)) (λ x. read (after x.0) x.1)

-- the answer of a part: by its size, by its fault, by what follows
abbrev answer : {X : Type 0} → Bool → Option HeaderFault → Result X HeaderFault → Result X HeaderFault
answer short fault behind = if short then Err Short else passing fault behind

-- what is read is spelled
part_spelled : {X : Type 0} (size : ℕ) (refused : List ℕ → Option HeaderFault) (next : List ℕ → Format X) (bytes : List ℕ) (x : X) (rest : List ℕ) (short : Bool) (fault : Option HeaderFault)
    → nat_lt (length bytes) size ≡ short → refused (take size bytes) ≡ fault → answer short fault (read (next (take size bytes)) (drop size bytes)) ≡ Ok (x, rest)
    → (read (next (take size bytes)) (drop size bytes) ≡ Ok (x, rest) → Spells (next (take size bytes)) (drop size bytes) x rest)
    → Spells (Part size refused next) bytes x rest
part_spelled size refused next bytes x rest true fault short_is fault_is e behind = absurd cc
part_spelled size refused next bytes x rest false (Some fault) short_is fault_is e behind = absurd cc
part_spelled size refused next bytes x rest false None short_is fault_is e behind =
    let more = behind e in
    let enough : size ≤ length bytes = ltb-false (length bytes) size short_is in
    record {
      parts = take size bytes ∷ more.parts;
      stand = (length-take-le size bytes enough, fault_is, more.stand);
      bytes_are = sym (take-append-drop size bytes) ∙ ap (λ (l : List ℕ). take size bytes ++ l) more.bytes_are ∙ sym (append_assoc (take size bytes) (joined more.parts) rest);
    }

pub read-spells : {X : Type 0} (format : Format X) (bytes : List ℕ) (x : X) (rest : List ℕ) → read format bytes ≡ Ok (x, rest) → Spells format bytes x rest
unfolding read
read-spells {X} (Told told) bytes x rest e =
    let pair : Path (X × List ℕ) (told, bytes) (x, rest) = cc in
    record { parts = []; stand = ap (λ (p : X × List ℕ). Told p.0) pair; bytes_are = ap (λ (p : X × List ℕ). p.1) pair }
read-spells (Part size refused next) bytes x rest e =
    part_spelled size refused next bytes x rest (nat_lt (length bytes) size) (refused (take size bytes)) refl refl e (read-spells (next (take size bytes)) (drop size bytes) x rest)

-- a part that stands there, and is not refused
pub part-read : {X : Type 0} (size : ℕ) (refused : List ℕ → Option HeaderFault) (next : List ℕ → Format X) (part more : List ℕ) → length part ≡ size → refused part ≡ None
    → read (Part size refused next) (part ++ more) ≡ read (next part) more
unfolding read
part-read {X} size refused next part more size_is passes =
    let enough : nat_lt (length (part ++ more)) size ≡ false = le-ltb (length (part ++ more)) size (omega (arith, length-append part more)) in
    let front : take size (part ++ more) ≡ part = ap (λ n. take n (part ++ more)) (sym size_is) ∙ take-append_seam part more in
    let back : drop size (part ++ more) ≡ more = ap (λ n. drop n (part ++ more)) (sym size_is) ∙ drop-append_seam part more in
    ap (λ short. answer short (refused (take size (part ++ more))) (read (next (take size (part ++ more))) (drop size (part ++ more)))) enough
    ∙ ap (λ (l : List ℕ). passing (refused l) (read (next l) (drop size (part ++ more)))) front
    ∙ ap (λ (l : List ℕ). passing (refused part) (read (next part) l)) back
    ∙ ap (λ (fault : Option HeaderFault). passing fault (read (next part) more)) passes

-- what is spelled is read
pub leads-read : {X : Type 0} (parts : List (List ℕ)) (format : Format X) (x : X) (rest : List ℕ) → Leads format parts (Told x) → read format (joined parts ++ rest) ≡ Ok (x, rest)
unfolding read
leads-read {X} [] format x rest stand = ap (λ (f : Format X). read f rest) stand
leads-read (part ∷ parts) (Told told) x rest stand = absurd stand
leads-read (part ∷ parts) (Part size refused next) x rest stand =
    ap (read (Part size refused next)) (append_assoc part (joined parts) rest)
    ∙ part-read size refused next part (joined parts ++ rest) stand.0 stand.1
    ∙ leads-read parts (next part) x rest stand.2

pub spells-read : {X : Type 0} (format : Format X) (bytes : List ℕ) (x : X) (rest : List ℕ) → Spells format bytes x rest → read format bytes ≡ Ok (x, rest)
spells-read format bytes x rest spelled = ap (read format) spelled.bytes_are ∙ leads-read spelled.parts format x rest spelled.stand

-- what is refused has a part that fails
part_fails : {X : Type 0} (size : ℕ) (refused : List ℕ → Option HeaderFault) (next : List ℕ → Format X) (bytes : List ℕ) (why : HeaderFault) (short : Bool) (fault : Option HeaderFault)
    → nat_lt (length bytes) size ≡ short → refused (take size bytes) ≡ fault → answer short fault (read (next (take size bytes)) (drop size bytes)) ≡ Err why
    → (read (next (take size bytes)) (drop size bytes) ≡ Err why → Fails (next (take size bytes)) (drop size bytes) why)
    → Fails (Part size refused next) bytes why
part_fails {X} size refused next bytes why true fault short_is fault_is e behind =
    let is_short : why ≡ Short = cc in
    record { parts = []; rest = bytes; size = size; refused = refused; next = next; stand = refl; bytes_are = refl; fails = inl (ltb-true (length bytes) size short_is, is_short) }
part_fails {X} size refused next bytes why false (Some fault) short_is fault_is e behind =
    let is_fault : fault ≡ why = cc in
    record {
      parts = [];
      rest = bytes;
      size = size;
      refused = refused;
      next = next;
      stand = refl;
      bytes_are = refl;
      fails = inr (ltb-false (length bytes) size short_is, fault_is ∙ ap Some is_fault);
    }
part_fails size refused next bytes why false None short_is fault_is e behind =
    let more = behind e in
    let enough : size ≤ length bytes = ltb-false (length bytes) size short_is in
    record {
      parts = take size bytes ∷ more.parts;
      rest = more.rest;
      size = more.size;
      refused = more.refused;
      next = more.next;
      stand = (length-take-le size bytes enough, fault_is, more.stand);
      bytes_are = sym (take-append-drop size bytes) ∙ ap (λ (l : List ℕ). take size bytes ++ l) more.bytes_are ∙ sym (append_assoc (take size bytes) (joined more.parts) more.rest);
      fails = more.fails;
    }

pub read-fails : {X : Type 0} (format : Format X) (bytes : List ℕ) (fault : HeaderFault) → read format bytes ≡ Err fault → Fails format bytes fault
unfolding read
read-fails (Told told) bytes fault e = absurd cc
read-fails (Part size refused next) bytes fault e =
    part_fails size refused next bytes fault (nat_lt (length bytes) size) (refused (take size bytes)) refl refl e (read-fails (next (take size bytes)) (drop size bytes) fault)

fault-read : {X : Type 0} (size : ℕ) (refused : List ℕ → Option HeaderFault) (next : List ℕ → Format X) (bytes : List ℕ) (fault : HeaderFault) → IsFaultOf size refused bytes fault
    → read (Part size refused next) bytes ≡ Err fault
unfolding read
fault-read size refused next bytes fault (inl why) =
    ap (λ short. answer short (refused (take size bytes)) (read (next (take size bytes)) (drop size bytes))) (lt-ltb (length bytes) size why.0) ∙ ap Err (sym why.1)
fault-read size refused next bytes fault (inr why) =
    ap (λ short. answer short (refused (take size bytes)) (read (next (take size bytes)) (drop size bytes))) (le-ltb (length bytes) size why.0)
    ∙ ap (λ (f : Option HeaderFault). passing f (read (next (take size bytes)) (drop size bytes))) why.1

leads-fails : {X : Type 0} (parts : List (List ℕ)) (format : Format X) (size : ℕ) (refused : List ℕ → Option HeaderFault) (next : List ℕ → Format X) (rest : List ℕ) (fault : HeaderFault)
    → Leads format parts (Part size refused next) → IsFaultOf size refused rest fault → read format (joined parts ++ rest) ≡ Err fault
leads-fails {X} [] format size refused next rest fault stand fails = ap (λ (f : Format X). read f rest) stand ∙ fault-read size refused next rest fault fails
leads-fails (part ∷ parts) (Told told) size refused next rest fault stand fails = absurd stand
leads-fails (part ∷ parts) (Part own_size own_refused own_next) size refused next rest fault stand fails =
    ap (read (Part own_size own_refused own_next)) (append_assoc part (joined parts) rest)
    ∙ part-read own_size own_refused own_next part (joined parts ++ rest) stand.0 stand.1
    ∙ leads-fails parts (own_next part) size refused next rest fault stand.2 fails

pub fails-read : {X : Type 0} (format : Format X) (bytes : List ℕ) (fault : HeaderFault) → Fails format bytes fault → read format bytes ≡ Err fault
fails-read format bytes fault why =
    ap (read format) why.bytes_are ∙ leads-fails why.parts format why.size why.refused why.next why.rest fault why.stand why.fails

-- fewer bytes than the parts have
short-part : {X : Type 0} (size : ℕ) (refused : List ℕ → Option HeaderFault) (next : List ℕ → Format X) (bytes : List ℕ) → length bytes < size → read (Part size refused next) bytes ≡ Err Short
short-part size refused next bytes below = fault-read size refused next bytes Short (inl (below, refl))

leads-short : {X : Type 0} (parts : List (List ℕ)) (format : Format X) (x : X) (rest : List ℕ) (len : ℕ) → Leads format parts (Told x) → len < length (joined parts)
    → read format (take len (joined parts ++ rest)) ≡ Err Short
leads-short [] format x rest len stand below = absurd (omega arith)
leads-short (part ∷ parts) (Told told) x rest len stand below = absurd stand
leads-short (part ∷ parts) (Part size refused next) x rest len stand below =
    ap (λ (l : List ℕ). read (Part size refused next) (take len l)) (append_assoc part (joined parts) rest)
    ∙ short_or (nat_lt len size) refl (leads-short parts (next part) x rest (len - size) stand.2)
  where
    more : List ℕ
    more = joined parts ++ rest

    short_or : (short : Bool) → nat_lt len size ≡ short → (len - size < length (joined parts) → read (next part) (take (len - size) (joined parts ++ rest)) ≡ Err Short)
        → read (Part size refused next) (take len (part ++ (joined parts ++ rest))) ≡ Err Short
    short_or true is behind =
        let small : len < size = ltb-true len size is in
        let len_is : length (take len (part ++ (joined parts ++ rest))) ≡ len = length-take-le len (part ++ (joined parts ++ rest)) (omega (arith, length-append part (joined parts ++ rest), stand.0)) in
        short-part size refused next (take len (part ++ (joined parts ++ rest))) (omega arith)
    short_or false is behind =
        let large : size ≤ len = ltb-false len size is in
        let len_is : length part + (len - size) ≡ len = omega (arith, stand.0) in
        let taken : take len (part ++ (joined parts ++ rest)) ≡ part ++ take (len - size) (joined parts ++ rest) =
        ap (λ n. take n (part ++ (joined parts ++ rest))) (sym len_is) ∙ take-append-add part (joined parts ++ rest) (len - size) in
        ap (read (Part size refused next)) taken
        ∙ part-read size refused next part (take (len - size) (joined parts ++ rest)) stand.0 stand.1
        ∙ behind (omega (arith, length-append part (joined parts), stand.0))

pub fewer-short : {X : Type 0} (format : Format X) (bytes : List ℕ) (x : X) (rest : List ℕ) (len : ℕ) → read format bytes ≡ Ok (x, rest) → len + length rest < length bytes
    → read format (take len bytes) ≡ Err Short
fewer-short format bytes x rest len e below =
    let spelled = read-spells format bytes x rest e in
    let size : length bytes ≡ length (joined spelled.parts) + length rest = ap length spelled.bytes_are ∙ length-append (joined spelled.parts) rest in
    ap (λ (l : List ℕ). read format (take len l)) spelled.bytes_are ∙ leads-short spelled.parts format x rest len spelled.stand (omega arith)

-- bytes have one reading
pub one-reading : {X : Type 0} (format : Format X) (bytes : List ℕ) → ((told : X × List ℕ) × Spells format bytes told.0 told.1) ⊎ ((fault : HeaderFault) × Fails format bytes fault)
one-reading {X} format bytes = by_answer (read format bytes) refl
  where
    by_answer : (r : Result (X × List ℕ) HeaderFault) → read format bytes ≡ r → ((told : X × List ℕ) × Spells format bytes told.0 told.1) ⊎ ((fault : HeaderFault) × Fails format bytes fault)
    by_answer (Ok told) is = inl (told, read-spells format bytes told.0 told.1 is)
    by_answer (Err fault) is = inr (fault, read-fails format bytes fault is)

pub one-told : {X : Type 0} (format : Format X) (bytes rest after : List ℕ) (one other : X) → Spells format bytes one rest → Spells format bytes other after → (one ≡ other) × (rest ≡ after)
one-told {X} format bytes rest after one other first second =
    let both : Path (Result (X × List ℕ) HeaderFault) (Ok (one, rest)) (Ok (other, after)) = sym (spells-read format bytes one rest first) ∙ spells-read format bytes other after second in
    let pair : Path (X × List ℕ) (one, rest) (other, after) = cc in
    (ap (λ (p : X × List ℕ). p.0) pair, ap (λ (p : X × List ℕ). p.1) pair)

pub one-fault : {X : Type 0} (format : Format X) (bytes : List ℕ) (one other : HeaderFault) → Fails format bytes one → Fails format bytes other → one ≡ other
one-fault {X} format bytes one other first second =
    let both : Path (Result (X × List ℕ) HeaderFault) (Err one) (Err other) = sym (fails-read format bytes one first) ∙ fails-read format bytes other second in
    cc

pub never-both : {X : Type 0} (format : Format X) (bytes rest : List ℕ) (one : X) (fault : HeaderFault) → Spells format bytes one rest → Fails format bytes fault → ⊥
never-both {X} format bytes rest one fault told failed =
    let both : Path (Result (X × List ℕ) HeaderFault) (Ok (one, rest)) (Err fault) = sym (spells-read format bytes one rest told) ∙ fails-read format bytes fault failed in
    cc
