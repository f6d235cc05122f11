-- Readings that take from left to right exactly what spells their answer.
use Rattle.std.proofs.Common.{◌≡◌, ℕ, ◌+◌, ◌-◌, ◌<◌, ◌≤◌, Bool, true, false, List, [], ◌++◌, length, take, drop, Option, Some, None, Result, Ok, Err, refl, sym, ap, subst, ◌∙◌, append_assoc, append-nil, arith}
use Rattle.std.specs.Prelude.{nat_lt, is_some}
use Rattle.std.proofs.lemmas.Bool.{ltb-true, ltb-false}
use Rattle.std.proofs.lemmas.List.{length-append, take-append-le}
use Rattle.std.proofs.lemmas.List.Elements.{All-drop}
use Rattle.std.proofs.Math.Seq.{take-append-add, drop-append_seam}
use Rattle.ua_binary.specs.Reading.{◌>>=◌, part_at, skipped}
use Rattle.ua_binary.specs.Wire.{AreBytes}

-- a spelling of this answer stands in front of this rest
pub record Spelled (A : Type 0) (Spells : A → List ℕ → Type 0) (bytes : List ℕ) (a : A) (rest : List ℕ) : Type 0 where
  pub text : List ℕ
  pub spells : Spells a text
  pub split : bytes ≡ text ++ rest

-- What spells an answer is read as it, whatever follows; what is read as an answer begins with a spelling of it; of a spelling fewer bytes are short.
pub record IsGrammar (A F : Type 0) (short : F) (Spells : A → List ℕ → Type 0) (read : List ℕ → Result (A × List ℕ) F) : Type 0 where
  pub again : (a : A) (text rest : List ℕ) → Spells a text → read (text ++ rest) ≡ Ok (a, rest)
  pub back : (bytes rest : List ℕ) (a : A) → AreBytes bytes → read bytes ≡ Ok (a, rest) → Spelled A Spells bytes a rest
  pub fewer : (a : A) (text : List ℕ) (n : ℕ) → Spells a text → n < length text → read (take n text) ≡ Err short

-- one spelling behind another
pub record Joined (A B : Type 0) (S : A → List ℕ → Type 0) (T : A → B → List ℕ → Type 0) (b : B) (text : List ℕ) : Type 0 where
  pub first : A
  pub front : List ℕ
  pub back : List ℕ
  pub spells_first : S first front
  pub spells : T first b back
  pub split : text ≡ front ++ back

pub rest-bytes : (bytes text rest : List ℕ) → AreBytes bytes → bytes ≡ text ++ rest → AreBytes rest
rest-bytes bytes text rest all split =
    let behind : drop (length text) bytes ≡ rest = ap (λ (l : List ℕ). drop (length text) l) split ∙ drop-append_seam text rest in
    subst AreBytes behind (All-drop (λ (b : ℕ). b < 256) (length text) bytes all)

pub then_grammar : (A B F : Type 0) (short : F) (S : A → List ℕ → Type 0) (T : A → B → List ℕ → Type 0) (read : List ℕ → Result (A × List ℕ) F) (more : A → List ℕ → Result (B × List ℕ) F)
    → IsGrammar A F short S read → ((a : A) (text : List ℕ) → S a text → IsGrammar B F short (T a) (more a)) → IsGrammar B F short (Joined A B S T) (λ bytes. read bytes >>= λ x. more x.0 x.1)
then_grammar A B F short S T read more first second = record {
  again = λ b text rest j. ap (λ (l : List ℕ). read (l ++ rest) >>= step) j.split ∙ ap (λ (l : List ℕ). read l >>= step) (append_assoc j.front j.back rest)
      ∙ ap (λ (r : Result (A × List ℕ) F). r >>= step) (first.again j.first j.front (j.back ++ rest) j.spells_first) ∙ (second j.first j.front j.spells_first).again b j.back rest j.spells;
  back = λ bytes rest b all e. by_first bytes rest b all e (read bytes) refl;
  fewer = λ b text n j below. subst (λ (l : List ℕ). (read (take n l) >>= step) ≡ Err short) (sym j.split) (by_place b n j (subst (λ (l : List ℕ). n < length l) j.split below) (nat_lt n (length j.front)) refl);
}
  where
    step : A × List ℕ → Result (B × List ℕ) F
    step x = more x.0 x.1

    by_first : (bytes rest : List ℕ) (b : B) → AreBytes bytes → (read bytes >>= step) ≡ Ok (b, rest) → (r : Result (A × List ℕ) F) → read bytes ≡ r → Spelled B (Joined A B S T) bytes b rest
    by_first bytes rest b all e (Err fault) is =
        let no : Path (Result (B × List ℕ) F) (Err fault) (Ok (b, rest)) = sym (ap (λ (r : Result (A × List ℕ) F). r >>= step) is) ∙ e in
        absurd cc
    by_first bytes rest b all e (Ok x) is =
        let one = first.back bytes x.1 x.0 all is in
        let two = (second x.0 one.text one.spells).back x.1 rest b (rest-bytes bytes one.text x.1 all one.split) (sym (ap (λ (r : Result (A × List ℕ) F). r >>= step) is) ∙ e) in
        record {
          text = one.text ++ two.text;
          spells = record { first = x.0; front = one.text; back = two.text; spells_first = one.spells; spells = two.spells; split = refl };
          split = one.split ∙ ap (λ (l : List ℕ). one.text ++ l) two.split ∙ sym (append_assoc one.text two.text rest);
        }

    by_place : (b : B) (n : ℕ) {text : List ℕ} (j : Joined A B S T b text) → n < length (j.front ++ j.back) → (t : Bool) → nat_lt n (length j.front) ≡ t → (read (take n (j.front ++ j.back)) >>= step) ≡ Err short
    by_place b n j below true is =
        let within : n < length j.front = ltb-true n (length j.front) is in
        ap (λ (l : List ℕ). read l >>= step) (take-append-le n j.front j.back (omega arith)) ∙ ap (λ (r : Result (A × List ℕ) F). r >>= step) (first.fewer j.first j.front n j.spells_first within)
    by_place b n j below false is =
        let past_first : length j.front ≤ n = ltb-false n (length j.front) is in
        let m : ℕ = n - length j.front in
        let place : n ≡ length j.front + m = omega arith in
        let left : m < length j.back = omega (arith, length-append j.front j.back) in
        ap (λ (k : ℕ). read (take k (j.front ++ j.back)) >>= step) place
        ∙ ap (λ (l : List ℕ). read l >>= step) (take-append-add j.front j.back m)
        ∙ ap (λ (r : Result (A × List ℕ) F). r >>= step) (first.again j.first j.front (take m j.back) j.spells_first)
        ∙ (second j.first j.front j.spells_first).fewer b j.back m j.spells left

-- a spelling with nothing behind it
pub alone : (front back text : List ℕ) → text ≡ front ++ back → back ≡ [] → front ≡ text
alone front back text split nothing = sym (split ∙ ap (λ (l : List ℕ). front ++ l) nothing ∙ append-nil front)

-- nothing more is read
abbrev pub Done : {A : Type 0} → A → A → List ℕ → Type 0
Done a found text = (found ≡ a) × (text ≡ [])

pub done_grammar : (A F : Type 0) (short : F) (a : A) → IsGrammar A F short (Done a) (λ bytes. Ok (a, bytes))
done_grammar A F short a = record {
  again = λ found text rest is. ap (λ (l : List ℕ). Ok (a, l ++ rest)) is.1 ∙ ap (λ (x : A). Ok (x, rest)) (sym is.0);
  back = λ bytes rest found all e. record { text = []; spells = (sym (found_is bytes rest found e), refl); split = rest_is bytes rest found e };
  fewer = λ found text n is below. absurd (none text n is.1 below);
}
  where
    found_is : (bytes rest : List ℕ) (found : A) → Path (Result (A × List ℕ) F) (Ok (a, bytes)) (Ok (found, rest)) → a ≡ found
    found_is bytes rest found e =
        let pair : Path (A × List ℕ) (a, bytes) (found, rest) = cc in
        ap (λ (p : A × List ℕ). p.0) pair

    rest_is : (bytes rest : List ℕ) (found : A) → Path (Result (A × List ℕ) F) (Ok (a, bytes)) (Ok (found, rest)) → bytes ≡ rest
    rest_is bytes rest found e =
        let pair : Path (A × List ℕ) (a, bytes) (found, rest) = cc in
        ap (λ (p : A × List ℕ). p.1) pair

    none : (text : List ℕ) (n : ℕ) → text ≡ [] → n < length text → ⊥
    none text n is below = omega (arith, ap length is)

-- a fault is no spelling's
abbrev pub Never : {A : Type 0} → A → List ℕ → Type 0
Never found text = ⊥

pub refused_grammar : (A F : Type 0) (short fault : F) → IsGrammar A F short Never (λ bytes. Err fault)
refused_grammar A F short fault = record {
  again = λ a text rest never. absurd never;
  back = λ bytes rest a all e. absurd (no a rest e);
  fewer = λ a text n never below. absurd never;
}
  where
    no : (a : A) (rest : List ℕ) → Path (Result (A × List ℕ) F) (Err fault) (Ok (a, rest)) → ⊥
    no a rest e = cc

-- the same spellings, said otherwise
pub same_grammar : (A F : Type 0) (short : F) (S T : A → List ℕ → Type 0) (read : List ℕ → Result (A × List ℕ) F) → ((a : A) (text : List ℕ) → S a text → T a text) → ((a : A) (text : List ℕ) → T a text → S a text)
    → IsGrammar A F short S read → IsGrammar A F short T read
same_grammar A F short S T read there here is = record {
  again = λ a text rest spells. is.again a text rest (here a text spells);
  back = λ bytes rest a all e. let one = is.back bytes rest a all e in record { text = one.text; spells = there a one.text one.spells; split = one.split };
  fewer = λ a text n spells below. is.fewer a text n (here a text spells) below;
}

-- a part that may be missing
abbrev pub Optional : {A : Type 0} → (A → List ℕ → Type 0) → Option A → List ℕ → Type 0
Optional S None text = text ≡ []
Optional S (Some a) text = S a text

pub record PartSpells (A : Type 0) (flag : Bool) (S : A → List ℕ → Type 0) (part : Option A) (text : List ℕ) : Type 0 where
  pub flagged : is_some part ≡ flag
  pub spells : Optional S part text

pub part_grammar : (A F : Type 0) (short : F) (flag : Bool) (S : A → List ℕ → Type 0) (read : List ℕ → Result (A × List ℕ) F) → IsGrammar A F short S read → IsGrammar (Option A) F short (PartSpells A flag S) (part_at flag read)
part_grammar A F short true S read is =
    same_grammar (Option A) F short (Joined A (Option A) S (λ a. Done (Some a))) (PartSpells A true S) (λ bytes. read bytes >>= λ part. Ok (Some part.0, part.1)) there here
    (then_grammar A (Option A) F short S (λ a. Done (Some a)) read (λ a rest. Ok (Some a, rest)) is (λ a text _. done_grammar (Option A) F short (Some a)))
  where
    there : (part : Option A) (text : List ℕ) → Joined A (Option A) S (λ a. Done (Some a)) part text → PartSpells A true S part text
    there part text j =
        let found : Some j.first ≡ part = sym j.spells.0 in
        subst (λ (o : Option A). PartSpells A true S o text) found (record { flagged = refl; spells = subst (S j.first) (alone j.front j.back text j.split j.spells.1) j.spells_first })

    here : (part : Option A) (text : List ℕ) → PartSpells A true S part text → Joined A (Option A) S (λ a. Done (Some a)) part text
    here None text p = absurd (let e : Path Bool false true = p.flagged in cc)
    here (Some a) text p = record { first = a; front = text; back = []; spells_first = p.spells; spells = (refl, refl); split = sym (append-nil text) }
part_grammar A F short false S read is =
    same_grammar (Option A) F short (Done None) (PartSpells A false S) (λ bytes. Ok (None, bytes)) there here (done_grammar (Option A) F short None)
  where
    there : (part : Option A) (text : List ℕ) → Done None part text → PartSpells A false S part text
    there part text d = subst (λ (o : Option A). PartSpells A false S o text) (sym d.0) (record { flagged = refl; spells = d.1 })

    here : (part : Option A) (text : List ℕ) → PartSpells A false S part text → Done None part text
    here None text p = (refl, p.spells)
    here (Some a) text p = absurd (let e : Path Bool true false = p.flagged in cc)

-- a spelling that is read past
pub record Skips (A : Type 0) (S : A → List ℕ → Type 0) (done : Unit {0}) (text : List ℕ) : Type 0 where
  pub found : A
  pub spells : S found text

pub skipped_grammar : (A F : Type 0) (short : F) (S : A → List ℕ → Type 0) (read : List ℕ → Result (A × List ℕ) F) → IsGrammar A F short S read → IsGrammar (Unit {0}) F short (Skips A S) (skipped read)
skipped_grammar A F short S read is =
    same_grammar (Unit {0}) F short (Joined A (Unit {0}) S (λ a. Done tt)) (Skips A S) (skipped read) there here
    (then_grammar A (Unit {0}) F short S (λ a. Done tt) read (λ a rest. Ok (tt, rest)) is (λ a text _. done_grammar (Unit {0}) F short tt))
  where
    there : (done : Unit {0}) (text : List ℕ) → Joined A (Unit {0}) S (λ a. Done tt) done text → Skips A S done text
    there done text j = record { found = j.first; spells = subst (S j.first) (alone j.front j.back text j.split j.spells.1) j.spells_first }

    here : (done : Unit {0}) (text : List ℕ) → Skips A S done text → Joined A (Unit {0}) S (λ a. Done tt) done text
    here done text s = record { first = s.found; front = text; back = []; spells_first = s.spells; spells = (refl, refl); split = sym (append-nil text) }

-- an answer that is made of what was read
pub record Made (A B : Type 0) (S : A → List ℕ → Type 0) (make : A → B) (b : B) (text : List ℕ) : Type 0 where
  pub found : A
  pub spells : S found text
  pub is : b ≡ make found

pub made_grammar : (A B F : Type 0) (short : F) (S : A → List ℕ → Type 0) (make : A → B) (read : List ℕ → Result (A × List ℕ) F) → IsGrammar A F short S read → IsGrammar B F short (Made A B S make) (λ bytes. read bytes >>= λ x. Ok (make x.0, x.1))
made_grammar A B F short S make read is =
    same_grammar B F short (Joined A B S (λ a. Done (make a))) (Made A B S make) (λ bytes. read bytes >>= λ x. Ok (make x.0, x.1)) there here
    (then_grammar A B F short S (λ a. Done (make a)) read (λ a rest. Ok (make a, rest)) is (λ a text _. done_grammar B F short (make a)))
  where
    there : (b : B) (text : List ℕ) → Joined A B S (λ a. Done (make a)) b text → Made A B S make b text
    there b text j = record { found = j.first; spells = subst (S j.first) (alone j.front j.back text j.split j.spells.1) j.spells_first; is = j.spells.0 }

    here : (b : B) (text : List ℕ) → Made A B S make b text → Joined A B S (λ a. Done (make a)) b text
    here b text m = record { first = m.found; front = text; back = []; spells_first = m.spells; spells = (m.is, refl); split = sym (append-nil text) }
