-- What each datagram that came in the pumps keeps of what befell a read group, where it came being known.
use Rattle.std.proofs.Common.{◌≡◌, refl, sym, ap, ◌∙◌, subst, Bool, true, false, List, [], ◌∷◌, ◌++◌, map, ℕ, append_assoc}
use Rattle.std.specs.Prelude.{fold, if◌then◌else◌}
use Rattle.std.proofs.lemmas.List.Sums.{fold-append}
use Rattle.ua_base.specs.Journal as entries_of
use Rattle.ua_base.specs.Journal.{Entry}
use Rattle.ps_config.specs.declared.parts.Config.{Config}
use Rattle.reader_group.specs.Plain.{Event, Got, Setting}
use Rattle.writer_group.specs.Turns.{GroupDeed}
use Rattle.session_model.specs.Events.{events, got_on, readers_on, receives}
use Rattle.session_model.specs.Steps.{Step, Pump, moment_of}
use Rattle.session_laws.specs.Pasts.{CameAsMade}
use Rattle.session_laws.proofs.Closing.GotParts.{came-before, receives-behind}

pub map-pumps : (later before : List (List Entry)) (entries : List Entry) (start : List Step) → map Pump (later ++ entries ∷ before) ++ start ≡ map Pump later ++ Pump entries ∷ (map Pump before ++ start)
map-pumps [] before entries start = refl
map-pumps (one ∷ later) before entries start = ap (λ (l : List Step). Pump one ∷ l) (map-pumps later before entries start)

-- what befell a read group before an entry of a pump behind these
abbrev pub so_far : Config → ℕ → List Step → List (List Entry) → List Entry → List Event
so_far config r start before earlier =
    let steps = map Pump before ++ start in fold (got_on (moment_of steps) (readers_on config steps r)) (events config r steps) earlier

pub nil-behind : {X : Type 0} (xs : List X) → xs ++ [] ≡ xs
nil-behind [] = refl
nil-behind (x ∷ xs) = ap (λ l. x ∷ l) (nil-behind xs)

module _ (config : Config) (r : ℕ) (start : List Step) (operational : receives config start r ≡ true) where
  abbrev pub befell_in : List (List Entry) → List Event
  befell_in pumps = events config r (map Pump pumps ++ start)

  abbrev pub got_at : List (List Entry) → List ℕ → List Event → List Event
  got_at before datagram befell = let steps = map Pump before ++ start in Got (moment_of steps) (readers_on config steps r) datagram ∷ befell

  -- all of a pump came
  pub pumped : (entries : List Entry) (before : List (List Entry)) → befell_in (entries ∷ before) ≡ so_far config r start before entries
  pumped entries before =
      let steps = map Pump before ++ start in
      ap (λ (b : Bool). if b then fold (got_on (moment_of steps) (readers_on config steps r)) (events config r steps) entries else events config r steps) (receives-behind config r before start ∙ operational)

  -- an entry more
  one-more : (before : List (List Entry)) (earlier : List Entry) (entry : Entry)
      → so_far config r start before (earlier ++ entry ∷ []) ≡ (let steps = map Pump before ++ start in got_on (moment_of steps) (readers_on config steps r) (so_far config r start before earlier) entry)
  one-more before earlier entry = let steps = map Pump before ++ start in fold-append (got_on (moment_of steps) (readers_on config steps r)) (events config r steps) earlier (entry ∷ [])

  pub ends-with : (before : List (List Entry)) (earlier : List Entry) (datagram : List ℕ) → so_far config r start before (earlier ++ entries_of.Got datagram ∷ []) ≡ got_at before datagram (so_far config r start before earlier)
  ends-with before earlier datagram = one-more before earlier (entries_of.Got datagram)

  -- of a later moment all is known that is known of the whole
  module _ (setting : Setting) (pasts : ℕ → List GroupDeed) where
    abbrev Came : List Event → Type 0
    Came befell = CameAsMade setting config pasts befell

    came-if : (now : ℕ) (on : List Bool) (entries : List Entry) (befell : List Event) (b : Bool) → Came (if b then fold (got_on now on) befell entries else befell) → Came befell
    came-if now on entries befell true came = came-before setting config pasts now on entries befell came
    came-if now on entries befell false came = came

    pub came-behind : (later : List (List Entry)) (tail : List Step) → Came (events config r (map Pump later ++ tail)) → Came (events config r tail)
    came-behind [] tail came = came
    came-behind (entries ∷ later) tail came =
        let steps = map Pump later ++ tail in
        came-behind later tail (came-if (moment_of steps) (readers_on config steps r) entries (events config r steps) (receives config steps r) came)

    pub came-at : (later before : List (List Entry)) (earlier behind : List Entry) (datagram : List ℕ) → Came (befell_in (later ++ (earlier ++ entries_of.Got datagram ∷ behind) ∷ before))
        → Came (got_at before datagram (so_far config r start before earlier))
    came-at later before earlier behind datagram came =
        let steps = map Pump before ++ start in
        let entries = earlier ++ entries_of.Got datagram ∷ behind in
        let in_pump : Came (befell_in (entries ∷ before)) = came-behind later (Pump entries ∷ steps) (subst (λ (l : List Step). Came (events config r l)) (map-pumps later before entries start) came) in
        let split : so_far config r start before entries ≡ fold (got_on (moment_of steps) (readers_on config steps r)) (got_at before datagram (so_far config r start before earlier)) behind =
        fold-append (got_on (moment_of steps) (readers_on config steps r)) (events config r steps) earlier (entries_of.Got datagram ∷ behind) in
        came-before setting config pasts (moment_of steps) (readers_on config steps r) behind (got_at before datagram (so_far config r start before earlier)) (subst Came (pumped entries before ∙ split) in_pump)

  -- ---- over all pumps

  module _ (pumps : List (List Entry)) (P : List Event → Type 0)
      (keeps : (later before : List (List Entry)) (earlier behind : List Entry) (other : List ℕ) → pumps ≡ later ++ (earlier ++ entries_of.Got other ∷ behind) ∷ before
      → P (so_far config r start before earlier) → P (got_at before other (so_far config r start before earlier))) where
    entry-kept : (later before : List (List Entry)) (earlier behind : List Entry) (entry : Entry) → pumps ≡ later ++ (earlier ++ entry ∷ behind) ∷ before → P (so_far config r start before earlier)
        → P (let steps = map Pump before ++ start in got_on (moment_of steps) (readers_on config steps r) (so_far config r start before earlier) entry)
    entry-kept later before earlier behind (entries_of.Sent d) is h = h
    entry-kept later before earlier behind entries_of.SendFailed is h = h
    entry-kept later before earlier behind (entries_of.Got d) is h = keeps later before earlier behind d is h
    entry-kept later before earlier behind entries_of.Empty is h = h
    entry-kept later before earlier behind (entries_of.Long len) is h = h
    entry-kept later before earlier behind entries_of.ReceiveFailed is h = h

    pub entries-kept : (later before : List (List Entry)) (earlier rest : List Entry) → pumps ≡ later ++ (earlier ++ rest) ∷ before → P (so_far config r start before earlier) → P (so_far config r start before (earlier ++ rest))
    entries-kept later before earlier [] is h = subst (λ (l : List Entry). P (so_far config r start before l)) (sym (nil-behind earlier)) h
    entries-kept later before earlier (entry ∷ rest) is h =
        let moved : (earlier ++ entry ∷ []) ++ rest ≡ earlier ++ entry ∷ rest = append_assoc earlier (entry ∷ []) rest in
        subst (λ (l : List Entry). P (so_far config r start before l)) moved
        (entries-kept later before (earlier ++ entry ∷ []) rest (is ∙ ap (λ (l : List Entry). later ++ l ∷ before) (sym moved))
        (subst P (sym (one-more before earlier entry)) (entry-kept later before earlier rest entry is h)))

    pub pumps-kept : (outer later before : List (List Entry)) → pumps ≡ outer ++ (later ++ before) → P (befell_in before) → P (befell_in (later ++ before))
    pumps-kept outer [] before is h = h
    pumps-kept outer (entries ∷ later) before is h =
        let moved : (outer ++ entries ∷ []) ++ (later ++ before) ≡ outer ++ (entries ∷ (later ++ before)) = append_assoc outer (entries ∷ []) (later ++ before) in
        subst P (sym (pumped entries (later ++ before))) (entries-kept outer (later ++ before) [] entries is (pumps-kept (outer ++ entries ∷ []) later before (is ∙ sym moved) h))

    -- from a moment on
    pub kept-from : (later before : List (List Entry)) (earlier behind : List Entry) (datagram : List ℕ) → pumps ≡ later ++ (earlier ++ entries_of.Got datagram ∷ behind) ∷ before
        → P (got_at before datagram (so_far config r start before earlier)) → P (befell_in pumps)
    kept-from later before earlier behind datagram is h =
        let moved : (earlier ++ entries_of.Got datagram ∷ []) ++ behind ≡ earlier ++ entries_of.Got datagram ∷ behind = append_assoc earlier (entries_of.Got datagram ∷ []) behind in
        let entries = earlier ++ entries_of.Got datagram ∷ behind in
        let in_pump : P (so_far config r start before entries) =
        subst (λ (l : List Entry). P (so_far config r start before l)) moved
        (entries-kept later before (earlier ++ entries_of.Got datagram ∷ []) behind (is ∙ ap (λ (l : List Entry). later ++ l ∷ before) (sym moved)) (subst P (sym (ends-with before earlier datagram)) h)) in
        subst (λ (l : List (List Entry)). P (befell_in l)) (sym is) (pumps-kept [] later (entries ∷ before) is (subst P (sym (pumped entries before)) in_pump))
