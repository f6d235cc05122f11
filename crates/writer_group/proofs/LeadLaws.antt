-- What a header begins with goes by its ids and its settings, not by its numbers; the numbers and the ids stand behind it.
use Rattle.std.proofs.Common.{◌≡◌, ℕ, ◌+◌, ◌-◌, ◌≤◌, Bool, true, false, List, [], ◌∷◌, ◌++◌, length, take, drop, is_some, refl, sym, ap, subst, ◌∙◌, append_assoc, append-nil, arith, Option, Some, None, IfSome}
use Rattle.std.specs.Int.{w16, w32, to_le_bytes}
use Rattle.std.proofs.lemmas.List.{length-append}
use Rattle.std.proofs.Math.Seq.{take-append_seam}
use Rattle.ua_binary.specs.Wire.{flag, optional}
use Rattle.ua_binary.specs.Writing.{laid}
use Rattle.uadp_header.specs.Headers.{PublisherValue, IdsValue, NoIds, ListOf, ChunkOf, HeaderValue, SecurityValue}
use Rattle.uadp_header.specs.Spelling.{type_of, has_ids, is_chunk, publisher_bytes, ids_bytes, ids_len, publisher_len, len_if, extended1_byte, extended_bytes, flags_byte, flags_bytes, group_flags, group_bytes, security_bytes, header_bytes, IsWritten}
use Rattle.uadp_header.proofs.Lengths.{length-most}
use Rattle.ps_config.specs.declared.header.HeaderSettings.{HeaderSettings}
use Rattle.ps_config.specs.Headers.{version_value}
use Rattle.writer_group.specs.declared.laying.Cargo.{Cargo}
use Rattle.writer_group.specs.declared.load.Load.{Load}
use Rattle.writer_group.specs.declared.load.Load.TheVariants as loads
use Rattle.writer_group.specs.Envelopes.{Numbering, number_if, numbered_header}
use Rattle.writer_group.specs.Holding.{cargo_in, numbering_of}
use Rattle.writer_group.specs.Leads.{AreLeadsOf, BeginsWith, first_numbering, lead_bytes, lead_in, rest_bytes}
use Rattle.writer_group.specs.Posting.{load_header}
use Rattle.writer_group.specs.Sealing.{Envelope}

-- ---- the lead and the rest are the header

regroup : (a g v m s i : List ℕ) → (a ++ (((g ++ v) ++ m) ++ s)) ++ i ≡ ((a ++ g) ++ v) ++ ((m ++ s) ++ i)
regroup a g v m s i =
    ap (λ (t : List ℕ). (a ++ t) ++ i) (append_assoc (g ++ v) m s)
    ∙ ap (λ (t : List ℕ). t ++ i) (sym (append_assoc a (g ++ v) (m ++ s)))
    ∙ append_assoc (a ++ (g ++ v)) (m ++ s) i
    ∙ ap (λ (t : List ℕ). t ++ ((m ++ s) ++ i)) (sym (append_assoc a g v))

pub lead-rest : (h : HeaderValue) → h.security ≡ None → header_bytes h ≡ lead_bytes h ++ rest_bytes h
unfolding header_bytes group_bytes
lead-rest h none =
    let a = flags_bytes h ++ optional publisher_bytes h.publisher ++ optional (λ guid. guid) h.class_id in
    let g = group_flags h ∷ optional (to_le_bytes w16) h.group in
    let v = optional (to_le_bytes w32) h.version in
    let m = optional (to_le_bytes w16) h.message_number in
    let s = optional (to_le_bytes w16) h.sequence in
    let i = ids_bytes h.ids in
    ap (λ (x : Option SecurityValue). ((a ++ (((g ++ v) ++ m) ++ s)) ++ i) ++ optional security_bytes x) none
    ∙ append-nil ((a ++ (((g ++ v) ++ m) ++ s)) ++ i)
    ∙ regroup a g v m s i

pub length-lead : (h : HeaderValue) → h.security ≡ None → length (header_bytes h) ≡ length (lead_bytes h) + length (rest_bytes h)
length-lead h none = ap length (lead-rest h none) ∙ length-append (lead_bytes h) (rest_bytes h)

-- what is kept of bytes that a header was written to the front of
pub lead-cut : (bytes : List ℕ) (h : HeaderValue) (len : ℕ) → h.security ≡ None → len ≡ length (header_bytes h) - length (rest_bytes h) → take len (laid bytes 0 (header_bytes h)) ≡ lead_bytes h
lead-cut bytes h len none is =
    let lead = lead_bytes h in
    let rest = rest_bytes h in
    let behind = drop (0 + length (header_bytes h)) bytes in
    let long : length lead ≡ len = omega (arith, is, length-lead h none) in
    subst (λ n. take n (laid bytes 0 (header_bytes h)) ≡ lead) long (
    ap (λ (t : List ℕ). take (length lead) (t ++ behind)) (lead-rest h none)
    ∙ ap (take (length lead)) (append_assoc lead rest behind)
    ∙ take-append_seam lead (rest ++ behind)
    )

-- ---- numbers don't count

abbrev lead_by : PublisherValue → HeaderSettings → Bool → Bool → Bool → Bool → Bool → List ℕ
lead_by p s ids chunk secured message sequence =
    let extended1 = extended1_byte (type_of p) (is_some s.class_id) secured chunk in
    (flags_byte ids extended1 ∷ extended_bytes extended1 chunk) ++ publisher_bytes p ++ optional (λ guid. guid) s.class_id
    ++ (1 + flag (is_some (version_value s.version)) 2 + flag message 4 + flag sequence 8) ∷ optional (to_le_bytes w16) (Some s.id) ++ optional (to_le_bytes w32) (version_value s.version)

is-by : (p : PublisherValue) (s : HeaderSettings) (n : Numbering) (i : IdsValue) → lead_bytes (numbered_header p s n i)
    ≡ lead_by p s (has_ids i) (is_chunk i) (is_some n.security) (is_some (number_if s.message_number n.message)) (is_some (number_if s.sequence n.sequence))
unfolding flags_bytes
is-by p s n i = refl

by-same : (p : PublisherValue) (s : HeaderSettings) (a b c d e v w x y z : Bool) → a ≡ v → b ≡ w → c ≡ x → d ≡ y → e ≡ z → lead_by p s a b c d e ≡ lead_by p s v w x y z
by-same p s a b c d e v w x y z one two three four five = rw (one, two, three, four, five) refl

there : (holds : Bool) (number : ℕ) → is_some (number_if holds number) ≡ holds
there true number = refl
there false number = refl

pub lead-same : (p : PublisherValue) (s : HeaderSettings) (n m : Numbering) (i j : IdsValue) → n.security ≡ m.security → has_ids i ≡ has_ids j → is_chunk i ≡ is_chunk j
    → lead_bytes (numbered_header p s n i) ≡ lead_bytes (numbered_header p s m j)
lead-same p s n m i j security ids chunk =
    is-by p s n i
    ∙ by-same p s _ _ _ _ _ _ _ _ _ _ ids chunk (ap is_some security)
    (there s.message_number n.message ∙ sym (there s.message_number m.message))
    (there s.sequence n.sequence ∙ sym (there s.sequence m.sequence))
    ∙ sym (is-by p s m j)

-- the header of a load begins with the lead of its kind
pub begins : (e : Envelope) (cargo : Cargo) (load : Load) (index : ℕ) (security : Option SecurityValue) (h : HeaderValue) → h ≡ load_header e index (cargo_in cargo) load security
    → AreLeadsOf e.publisher e.settings cargo.leads.now → BeginsWith (lead_in cargo.leads.now load) h
begins e cargo (loads.Frames first count) index security h is leads none =
    leads.listed
    ∙ lead-same e.publisher e.settings first_numbering (numbering_of e index security) (ListOf []) _ (sym none ∙ ap (λ (x : HeaderValue). x.security) is) refl refl
    ∙ sym (ap (λ (x : HeaderValue). lead_bytes x) is)
begins e cargo (loads.Chunk frame chunk) index security h is leads none =
    leads.chunk
    ∙ lead-same e.publisher e.settings first_numbering (numbering_of e index security) (ChunkOf 0) _ (sym none ∙ ap (λ (x : HeaderValue). x.security) is) refl refl
    ∙ sym (ap (λ (x : HeaderValue). lead_bytes x) is)
begins e cargo loads.Slots index security h is leads none =
    leads.slots
    ∙ lead-same e.publisher e.settings first_numbering (numbering_of e index security) NoIds NoIds (sym none ∙ ap (λ (x : HeaderValue). x.security) is) refl refl
    ∙ sym (ap (λ (x : HeaderValue). lead_bytes x) is)

-- ---- a lead is kept

sixteen : (o : Option (List ℕ)) → IfSome o (λ guid. length guid ≡ 16) → len_if length o ≡ flag (is_some o) 16
sixteen None there = refl
sixteen (Some guid) there = there

at-most : (holds : Bool) → flag holds 16 ≤ 16
at-most true = omega arith
at-most false = omega arith

pub header-short : (p : PublisherValue) (s : HeaderSettings) (n : Numbering) (i : IdsValue) (h : HeaderValue) → h ≡ numbered_header p s n i → IsWritten h → publisher_len p ≤ 260 → ids_len i ≤ 2
    → length (header_bytes h) ≤ 320
header-short p s n i h is written short few =
    let guid = sixteen h.class_id written.header.class_id in
    omega (
      arith,
      length-most h guid written.senders.security,
      guid,
      at-most (is_some h.class_id),
      ap (λ (x : HeaderValue). len_if publisher_len x.publisher) is,
      ap (λ (x : HeaderValue). ids_len x.ids) is,
      short,
      few,
    )
