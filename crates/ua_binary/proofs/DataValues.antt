-- DataValues are read as exactly what spells them.
use Rattle.std.proofs.Common.{◌≡◌, ℕ, ◌<◌, ◌^◌, Bool, true, false, List, [], ◌∷◌, ◌++◌, Option, Some, None, Result, Ok, Err, refl, sym, ap, subst, ◌∙◌, append_assoc, append-nil}
use Rattle.std.specs.Prelude.{is_some, unwrap_or, IfSome, if◌then◌else◌}
use Rattle.std.specs.Int.{w32, to_le_bytes}
use Rattle.ua_values.specs.declared.value.Value.{Value}
use Rattle.ua_binary.specs.declared.data_value.Measured.{Measured}
use Rattle.ua_binary.specs.declared.fault.ValueFault.{ValueFault}
use Rattle.ua_binary.specs.declared.fault.ValueFault.TheVariants.{Short, KindOut}
use Rattle.ua_binary.specs.Reading.{◌>>=◌, byte_at, bytes_at, number_at, part_at, skipped}
use Rattle.ua_binary.specs.ReadingValues.{has, variant_at, times_past, parts_at, data_value_at}
use Rattle.ua_binary.specs.Wire.{IsPart, optional, WireValue, IsWireValue, variant_as, WireDataValue, IsWireDataValue, mask_of, data_value_as, value_in, measured_of}
use Rattle.ua_binary.proofs.Grammar.{IsGrammar, Joined, then_grammar, Done, done_grammar, refused_grammar, same_grammar, Optional, PartSpells, part_grammar, Skips, skipped_grammar}
use Rattle.ua_binary.proofs.Masks.{mask-told, flags-mask}
use Rattle.ua_binary.proofs.Parts.{IsByte, byte_grammar, IsPartOf, bytes_grammar, IsNumber, number_grammar, coded32}
use Rattle.ua_binary.proofs.Values.{SpellsVariant, variant_grammar}

-- a part of so many bytes that is read past
abbrev Skipped : ℕ → ℕ → ℕ → Unit {0} → List ℕ → Type 0
Skipped mask bit len = Skips (Option (List ℕ)) (PartSpells (List ℕ) (has mask bit) (IsPartOf len))

abbrev past : ℕ → ℕ → ℕ → List ℕ → Result (Unit {0} × List ℕ) ValueFault
past mask bit len = skipped (part_at (has mask bit) (bytes_at Short len))

past_grammar : (mask bit len : ℕ) → IsGrammar (Unit {0}) ValueFault Short (Skipped mask bit len) (past mask bit len)
past_grammar mask bit len =
    skipped_grammar (Option (List ℕ)) ValueFault Short (PartSpells (List ℕ) (has mask bit) (IsPartOf len)) (part_at (has mask bit) (bytes_at Short len))
    (part_grammar (List ℕ) ValueFault Short (has mask bit) (IsPartOf len) (bytes_at Short len) (bytes_grammar ValueFault Short len))

abbrev ServerTimes : ℕ → Unit {0} → List ℕ → Type 0
ServerTimes mask = Joined (Unit {0}) (Unit {0}) (Skipped mask 0x08 8) (λ _. Skipped mask 0x20 2)

abbrev LaterTimes : ℕ → Unit {0} → List ℕ → Type 0
LaterTimes mask = Joined (Unit {0}) (Unit {0}) (Skipped mask 0x10 2) (λ _. ServerTimes mask)

abbrev Times : ℕ → Unit {0} → List ℕ → Type 0
Times mask = Joined (Unit {0}) (Unit {0}) (Skipped mask 0x04 8) (λ _. LaterTimes mask)

times_grammar : (mask : ℕ) → IsGrammar (Unit {0}) ValueFault Short (Times mask) (times_past mask)
unfolding times_past
times_grammar mask =
    then_grammar (Unit {0}) (Unit {0}) ValueFault Short (Skipped mask 0x04 8) (λ _. LaterTimes mask) (past mask 0x04 8) (λ _ bytes. past mask 0x10 2 bytes >>= λ x. past mask 0x08 8 x.1 >>= λ y. past mask 0x20 2 y.1) (past_grammar mask 0x04 8)
    (λ _ _ _. then_grammar (Unit {0}) (Unit {0}) ValueFault Short (Skipped mask 0x10 2) (λ _. ServerTimes mask) (past mask 0x10 2) (λ _ bytes. past mask 0x08 8 bytes >>= λ y. past mask 0x20 2 y.1) (past_grammar mask 0x10 2)
    (λ _ _ _. then_grammar (Unit {0}) (Unit {0}) ValueFault Short (Skipped mask 0x08 8) (λ _. Skipped mask 0x20 2) (past mask 0x08 8) (λ _ bytes. past mask 0x20 2 bytes) (past_grammar mask 0x08 8)
    (λ _ _ _. past_grammar mask 0x20 2)))

abbrev found : Option Value → Option ℕ → Measured
found value status = record { value = value; status = unwrap_or status 0 }

abbrev AfterStatus : ℕ → Option Value → Option ℕ → Measured → List ℕ → Type 0
AfterStatus mask value status = Joined (Unit {0}) Measured (Times mask) (λ _. Done (found value status))

abbrev AfterValue : ℕ → Option Value → Measured → List ℕ → Type 0
AfterValue mask value = Joined (Option ℕ) Measured (PartSpells ℕ (has mask 0x02) (IsNumber w32 32)) (AfterStatus mask value)

abbrev AfterMask : ℕ → Measured → List ℕ → Type 0
AfterMask mask = Joined (Option Value) Measured (PartSpells Value (has mask 0x01) SpellsVariant) (AfterValue mask)

after_mask_grammar : (mask : ℕ) → IsGrammar Measured ValueFault Short (AfterMask mask) (parts_at mask)
unfolding parts_at
after_mask_grammar mask =
    then_grammar (Option Value) Measured ValueFault Short (PartSpells Value (has mask 0x01) SpellsVariant) (AfterValue mask) (part_at (has mask 0x01) variant_at)
    (λ value bytes. part_at (has mask 0x02) (number_at Short w32) bytes >>= λ status. times_past mask status.1 >>= λ times. Ok (found value status.0, times.1))
    (part_grammar Value ValueFault Short (has mask 0x01) SpellsVariant variant_at variant_grammar)
    (λ value _ _. then_grammar (Option ℕ) Measured ValueFault Short (PartSpells ℕ (has mask 0x02) (IsNumber w32 32)) (AfterStatus mask value) (part_at (has mask 0x02) (number_at Short w32))
    (λ status bytes. times_past mask bytes >>= λ times. Ok (found value status, times.1))
    (part_grammar ℕ ValueFault Short (has mask 0x02) (IsNumber w32 32) (number_at Short w32) (number_grammar ValueFault Short w32 32 coded32))
    (λ status _ _. then_grammar (Unit {0}) Measured ValueFault Short (Times mask) (λ _. Done (found value status)) (times_past mask) (λ _ bytes. Ok (found value status, bytes)) (times_grammar mask)
    (λ _ _ _. done_grammar Measured ValueFault Short (found value status))))

-- the parts behind a mask without a reserved bit
record Masked (mask : ℕ) (measured : Measured) (text : List ℕ) : Type 0 where
  pub clear : has mask 0xc0 ≡ false
  pub parts : AfterMask mask measured text

masked_grammar : (mask : ℕ) → IsGrammar Measured ValueFault Short (Masked mask) (λ bytes. if has mask 0xc0 then Err KindOut else parts_at mask bytes)
masked_grammar mask = by_test (has mask 0xc0) refl
  where
    by_test : (b : Bool) → has mask 0xc0 ≡ b → IsGrammar Measured ValueFault Short (Masked mask) (λ bytes. if has mask 0xc0 then Err KindOut else parts_at mask bytes)
    by_test true is =
        subst (λ (b : Bool). IsGrammar Measured ValueFault Short (Masked mask) (λ bytes. if b then Err KindOut else parts_at mask bytes)) (sym is)
        (same_grammar Measured ValueFault Short (λ measured text. ⊥) (Masked mask) (λ bytes. Err KindOut) (λ measured text never. absurd never) (λ measured text m. absurd (let no : Path Bool true false = sym is ∙ m.clear in cc)) (refused_grammar Measured ValueFault Short KindOut))
    by_test false is =
        subst (λ (b : Bool). IsGrammar Measured ValueFault Short (Masked mask) (λ bytes. if b then Err KindOut else parts_at mask bytes)) (sym is)
        (same_grammar Measured ValueFault Short (AfterMask mask) (Masked mask) (parts_at mask) (λ measured text parts. record { clear = is; parts = parts }) (λ measured text m. m.parts) (after_mask_grammar mask))

-- a DataValue in one of its forms
pub record SpellsDataValue (measured : Measured) (text : List ℕ) : Type 0 where
  pub wire : WireDataValue
  pub is_wire : IsWireDataValue wire
  pub meaning : measured_of wire ≡ measured
  pub spelled : text ≡ data_value_as wire

-- the value part, on the wire
record ValuePart (there : Bool) (value : Option Value) (text : List ℕ) : Type 0 where
  pub wire : Option WireValue
  pub is_wire : IfSome wire IsWireValue
  pub meaning : value_in wire ≡ value
  pub flagged : is_some wire ≡ there
  pub spelled : text ≡ optional variant_as wire

value_part : (there : Bool) (value : Option Value) (text : List ℕ) → PartSpells Value there SpellsVariant value text → ValuePart there value text
value_part there None text p = record { wire = None; is_wire = tt; meaning = refl; flagged = p.flagged; spelled = p.spells }
value_part there (Some value) text p = record { wire = Some p.spells.wire; is_wire = p.spells.is_wire; meaning = ap Some p.spells.meaning; flagged = p.flagged; spelled = p.spells.spelled }

spells_value : (there : Bool) (wire : Option WireValue) → IfSome wire IsWireValue → is_some wire ≡ there → PartSpells Value there SpellsVariant (value_in wire) (optional variant_as wire)
spells_value there None is e = record { flagged = e; spells = refl }
spells_value there (Some wire) is e = record { flagged = e; spells = record { wire = wire; is_wire = is; meaning = refl; spelled = refl } }

status_part : (status : Option ℕ) (text : List ℕ) → Optional (IsNumber w32 32) status text → IfSome status (λ code. code < 2 ^ 32) × (text ≡ optional (to_le_bytes w32) status)
status_part None text e = (tt, e)
status_part (Some code) text e = e

spells_status : (there : Bool) (status : Option ℕ) → IfSome status (λ code. code < 2 ^ 32) → is_some status ≡ there → PartSpells ℕ there (IsNumber w32 32) status (optional (to_le_bytes w32) status)
spells_status there None is e = record { flagged = e; spells = refl }
spells_status there (Some code) is e = record { flagged = e; spells = (is, refl) }

time_part : (len : ℕ) (part : Option (List ℕ)) (text : List ℕ) → Optional (IsPartOf len) part text → IfSome part (IsPart len) × (text ≡ optional (λ p. p) part)
time_part len None text e = (tt, e)
time_part len (Some part) text e = e

spells_time : (mask bit len : ℕ) (part : Option (List ℕ)) → IfSome part (IsPart len) → has mask bit ≡ is_some part → Skipped mask bit len tt (optional (λ p. p) part)
spells_time mask bit len None is e = record { found = None; spells = record { flagged = sym e; spells = refl } }
spells_time mask bit len (Some part) is e = record { found = Some part; spells = record { flagged = sym e; spells = (is, refl) } }

regroup : (mask : ℕ) (v s a b c d : List ℕ) → (mask ∷ []) ++ (v ++ (s ++ ((a ++ (b ++ (c ++ d))) ++ []))) ≡ (mask ∷ v) ++ s ++ a ++ b ++ c ++ d
regroup mask v s a b c d = simp (append_assoc, append-nil)

assemble : (mask : ℕ) (text m r0 v r1 s r2 t r3 a r4 b r5 c d : List ℕ) → text ≡ m ++ r0 → m ≡ mask ∷ [] → r0 ≡ v ++ r1 → r1 ≡ s ++ r2 → r2 ≡ t ++ r3 → r3 ≡ [] → t ≡ a ++ r4 → r4 ≡ b ++ r5 → r5 ≡ c ++ d
    → text ≡ (mask ∷ v) ++ s ++ a ++ b ++ c ++ d
assemble mask text m r0 v r1 s r2 t r3 a r4 b r5 c d e0 e1 e2 e3 e4 e5 e6 e7 e8 =
    let grouped : text ≡ (mask ∷ []) ++ (v ++ (s ++ ((a ++ (b ++ (c ++ d))) ++ []))) = cc in
    grouped ∙ regroup mask v s a b c d

join : (measured : Measured) (text : List ℕ) → Joined ℕ Measured IsByte Masked measured text → SpellsDataValue measured text
join measured text j =
    let parts = j.spells.parts in
    let after = parts.spells in
    let last = after.spells in
    let times = last.spells_first in
    let later = times.spells in
    let servers = later.spells in
    let value = value_part (has j.first 0x01) parts.first parts.front parts.spells_first in
    let status = status_part after.first after.front after.spells_first.spells in
    let source = time_part 8 times.spells_first.found times.front times.spells_first.spells.spells in
    let source_picoseconds = time_part 2 later.spells_first.found later.front later.spells_first.spells.spells in
    let server = time_part 8 servers.spells_first.found servers.front servers.spells_first.spells.spells in
    let server_picoseconds = time_part 2 servers.spells.found servers.back servers.spells.spells.spells in
    let is_mask = mask-told j.first (is_some value.wire) (is_some after.first) (is_some times.spells_first.found) (is_some servers.spells_first.found) (is_some later.spells_first.found) (is_some servers.spells.found)
    j.spells_first.0 j.spells.clear value.flagged after.spells_first.flagged times.spells_first.spells.flagged servers.spells_first.spells.flagged later.spells_first.spells.flagged servers.spells.spells.flagged in
    record {
      wire = record { value = value.wire; status = after.first; source_time = times.spells_first.found; source_picoseconds = later.spells_first.found; server_time = servers.spells_first.found; server_picoseconds = servers.spells.found };
      is_wire = record { value = value.is_wire; status = status.0; source_time = source.0; source_picoseconds = source_picoseconds.0; server_time = server.0; server_picoseconds = server_picoseconds.0 };
      meaning = ap (λ (v : Option Value). found v after.first) value.meaning ∙ sym last.spells.0;
      spelled = assemble (mask_of (record { value = value.wire; status = after.first; source_time = times.spells_first.found; source_picoseconds = later.spells_first.found; server_time = servers.spells_first.found; server_picoseconds = servers.spells.found }))
          text j.front j.back (optional variant_as value.wire) parts.back (optional (to_le_bytes w32) after.first) after.back last.front last.back (optional (λ p. p) times.spells_first.found) times.back (optional (λ p. p) later.spells_first.found) later.back
          (optional (λ p. p) servers.spells_first.found) (optional (λ p. p) servers.spells.found)
          j.split (j.spells_first.1 ∙ ap (λ (mask : ℕ). mask ∷ []) is_mask) (parts.split ∙ ap (λ (l : List ℕ). l ++ parts.back) value.spelled) (after.split ∙ ap (λ (l : List ℕ). l ++ after.back) status.1) last.split last.spells.1
          (times.split ∙ ap (λ (l : List ℕ). l ++ times.back) source.1) (later.split ∙ ap (λ (l : List ℕ). l ++ later.back) source_picoseconds.1)
          (servers.split ∙ ap (λ (l : List ℕ). l ++ servers.back) server.1 ∙ ap (λ (l : List ℕ). optional (λ p. p) servers.spells_first.found ++ l) server_picoseconds.1);
    }

apart : (wire : WireDataValue) → IsWireDataValue wire → Joined ℕ Measured IsByte Masked (measured_of wire) (data_value_as wire)
apart wire is =
    let told = flags-mask (is_some wire.value) (is_some wire.status) (is_some wire.source_time) (is_some wire.server_time) (is_some wire.source_picoseconds) (is_some wire.server_picoseconds) in
    let a = optional (λ p. p) wire.source_time in
    let b = optional (λ p. p) wire.source_picoseconds in
    let c = optional (λ p. p) wire.server_time in
    let d = optional (λ p. p) wire.server_picoseconds in
    record {
      first = mask_of wire;
      front = mask_of wire ∷ [];
      back = optional variant_as wire.value ++ (optional (to_le_bytes w32) wire.status ++ ((a ++ (b ++ (c ++ d))) ++ []));
      spells_first = (told.small, refl);
      split = sym (regroup (mask_of wire) (optional variant_as wire.value) (optional (to_le_bytes w32) wire.status) a b c d);
      spells = record {
        clear = told.clear;
        parts = record {
          first = value_in wire.value;
          front = optional variant_as wire.value;
          back = optional (to_le_bytes w32) wire.status ++ ((a ++ (b ++ (c ++ d))) ++ []);
          spells_first = spells_value (has (mask_of wire) 0x01) wire.value is.value (sym told.value);
          split = refl;
          spells = record {
            first = wire.status;
            front = optional (to_le_bytes w32) wire.status;
            back = (a ++ (b ++ (c ++ d))) ++ [];
            spells_first = spells_status (has (mask_of wire) 0x02) wire.status is.status (sym told.status);
            split = refl;
            spells = record {
              first = tt;
              front = a ++ (b ++ (c ++ d));
              back = [];
              spells_first = record {
                first = tt;
                front = a;
                back = b ++ (c ++ d);
                spells_first = spells_time (mask_of wire) 0x04 8 wire.source_time is.source_time told.source;
                split = refl;
                spells = record {
                  first = tt;
                  front = b;
                  back = c ++ d;
                  spells_first = spells_time (mask_of wire) 0x10 2 wire.source_picoseconds is.source_picoseconds told.source_picoseconds;
                  split = refl;
                  spells = record {
                    first = tt;
                    front = c;
                    back = d;
                    spells_first = spells_time (mask_of wire) 0x08 8 wire.server_time is.server_time told.server;
                    split = refl;
                    spells = spells_time (mask_of wire) 0x20 2 wire.server_picoseconds is.server_picoseconds told.server_picoseconds;
                  };
                };
              };
              split = refl;
              spells = (refl, refl);
            };
          };
        };
      };
    }

split : (measured : Measured) (text : List ℕ) → SpellsDataValue measured text → Joined ℕ Measured IsByte Masked measured text
split measured text s =
    subst (λ (m : Measured). Joined ℕ Measured IsByte Masked m text) s.meaning (subst (λ (t : List ℕ). Joined ℕ Measured IsByte Masked (measured_of s.wire) t) (sym s.spelled) (apart s.wire s.is_wire))

pub data_value_grammar : IsGrammar Measured ValueFault Short SpellsDataValue data_value_at
unfolding data_value_at
data_value_grammar =
    same_grammar Measured ValueFault Short (Joined ℕ Measured IsByte Masked) SpellsDataValue (λ bytes. byte_at Short bytes >>= λ mask. if has mask.0 0xc0 then Err KindOut else parts_at mask.0 mask.1) join split
    (then_grammar ℕ Measured ValueFault Short IsByte Masked (byte_at Short) (λ mask bytes. if has mask 0xc0 then Err KindOut else parts_at mask bytes) (byte_grammar ValueFault Short) (λ mask _ _. masked_grammar mask))
