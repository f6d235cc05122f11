-- Looks at the groups of a publisher, one after another.
use Rattle.std.proofs.Common.{◌≡◌, refl, sym, ap, ◌∙◌, subst, arith, ℕ, ◌+◌, ◌<◌, ◌≤◌, Bool, true, false, List, [], ◌∷◌, ◌++◌, length, get_or, set}
use Rattle.std.specs.Prelude.{◌||◌, All}
use Rattle.std.specs.List.{AllZip, Contains, HoldsAt}
use Rattle.std.proofs.lemmas.Bool.{false≢true}
use Rattle.std.proofs.lemmas.List.{get_or-set_same, get_or_read, length-set, length_push}
use Rattle.std.proofs.lemmas.List.Elements.{All-nil, All-push, Contains-append_left, Contains-push}
use Rattle.message_guard.specs.Senders.{IsSender, SenderState}
use Rattle.ps_config.specs.declared.parts.Config.{Config}
use Rattle.writer_group.specs.Standing.{HasRoom, datagrams_in}
use Rattle.writer_group.specs.declared.datagrams.Datagrams.{Datagrams}
use Rattle.writer_group.specs.declared.sampled.Sampled.{Sampled}
use Rattle.device.specs.Coming.{AllDid, Did, Does, HasItsTurn, HasMadeSome, HaveAllDone, IsPassed, IsQuiet}
use Rattle.device.specs.Looking.{Counts, HasLooked, IsFrom, LeavesOut, LeavesSenders, is_held}
use Rattle.device.specs.Sides.{ArePlaced, HasNumbered, HasRing, IsPublisher, IsSide}
use Rattle.device.specs.declared.looking.Looked.{Looked}
use Rattle.device.specs.declared.looking.Looked.TheVariants.{Held, Idle, Made}
use Rattle.device.specs.declared.publisher.Publisher.{Publisher}
use Rattle.device.specs.declared.side.Side.{Side}
use Rattle.device.proofs.Sending.{numbered-none}

-- ---- one look

-- the publisher with other groups, senders and datagrams
abbrev IsBut : Publisher → Publisher → Type 0
IsBut old mid = mid ≡ record old { sides = mid.sides; senders = mid.senders; out = mid.out }

-- the same with other counts
abbrev IsCounted : Publisher → Publisher → Type 0
IsCounted mid new = new ≡ record mid { from = new.from; made = new.made; handed = new.handed }

but-counted : (old mid new : Publisher) → IsBut old mid → IsCounted mid new
    → new ≡ record old { sides = mid.sides; senders = mid.senders; out = mid.out; from = new.from; made = new.made; handed = new.handed }
but-counted old mid new but counted = counted ∙ ap (λ (p : Publisher). record p { from = new.from; made = new.made; handed = new.handed }) but

counts-on : (looked : Looked) (old mid new : Publisher) → IsBut old mid → Counts looked mid new → Counts looked old new
counts-on Idle old mid new but counts = (counts.0 ∙ ap (λ (p : Publisher). p.made) but, counts.1 ∙ ap (λ (p : Publisher). p.handed) but)
counts-on Held old mid new but counts = (counts.0 ∙ ap (λ (p : Publisher). p.made) but, counts.1 ∙ ap (λ (p : Publisher). p.handed) but)
counts-on (Made made) old mid new but counts = counts

made-count : (looked : Looked) (old new : Publisher) (out : Datagrams) → LeavesOut looked old.out out → Counts looked old new → old.made ≡ length (datagrams_in old.out)
    → new.made ≡ length (datagrams_in out)
made-count Idle old new out leaves counts is = counts.0 ∙ is ∙ ap (λ (o : Datagrams). length (datagrams_in o)) (sym leaves)
made-count Held old new out leaves counts is = counts.0 ∙ is ∙ ap (λ (o : Datagrams). length (datagrams_in o)) (sym leaves)
made-count (Made made) old new out leaves counts is = counts.0 ∙ leaves

handed-count : (looked : Looked) (old new : Publisher) → Counts looked old new → old.handed ≤ old.made → new.handed ≤ new.made
handed-count Idle old new counts is = omega (arith, counts.0, counts.1, is)
handed-count Held old new counts is = omega (arith, counts.0, counts.1, is)
handed-count (Made made) old new counts is = omega (arith, counts.1)

-- a look leaves a group's index
pub did-index : (config : Config) (now : ℕ) (rows : List Sampled) (senders : List SenderState) (out : Datagrams) (looked : Looked) (was is : Side) → Did config now rows senders out looked was is → is.index ≡ was.index
did-index config now rows senders out Idle was is did = ap (λ (s : Side). s.index) did.stays
did-index config now rows senders out Held was is did = ap (λ (s : Side). s.index) did.stays
did-index config now rows senders out (Made made) was is did = did.turned.index

pub looked-publisher : (looked : Looked) (old mid new : Publisher) → IsPublisher old → IsBut old mid → IsCounted mid new → Counts looked mid new → LeavesOut looked old.out mid.out
    → All IsSender mid.senders.items → length mid.senders.items ≡ length old.senders.items → AllZip HasRing mid.senders.items old.rings.items → All (IsSide old.config) mid.sides.items
    → ArePlaced mid.sides.items → HasRoom old.config mid.out → IsPublisher new
looked-publisher looked old mid new is but counted counts leaves senders count rings sides places reserved =
    let on = counts-on looked old mid new but counts in
    subst IsPublisher (sym (but-counted old mid new but counted))
    (record {
      good = is.good;
      rows_are = is.rows_are;
      rows_count = is.rows_count;
      senders_are = senders;
      senders_count = count ∙ is.senders_count;
      rings_are = rings;
      sides_are = sides;
      places = places;
      reserved = reserved;
      made_is = made-count looked old new mid.out leaves on is.made_is;
      handed_is = handed-count looked old new on is.handed_is;
    })

pub looked-so : (place now : ℕ) (looked : Looked) (old mid new : Publisher) (was is : Side) (rows : List Sampled) (senders left : List SenderState)
    → IsBut old mid → IsCounted mid new → Counts looked mid new → IsFrom looked was.index new → place < length old.sides.items → was ≡ get_or old.sides.items place was
    → rows ≡ old.rows.items → senders ≡ old.senders.items → mid.sides.items ≡ set old.sides.items place is → mid.senders.items ≡ left
    → Did old.config now rows senders mid.out looked was is → LeavesSenders old.config was.index looked senders left → HasLooked place now looked old new
looked-so place now looked old mid new was is rows senders left but counted counts from low was_is rows_are senders_are sides_are left_are did numbers =
    let all = but-counted old mid new but counted in
    let sides : new.sides.items ≡ set old.sides.items place is = ap (λ (p : Publisher). p.sides.items) all ∙ sides_are in
    let out : new.out ≡ mid.out = ap (λ (p : Publisher). p.out) all in
    let here : (d : Side) → get_or new.sides.items place d ≡ is = λ d. ap (λ (l : List Side). get_or l place d) sides ∙ get_or-set_same old.sides.items place is d low in
    record {
      config = ap (λ (p : Publisher). p.config) all;
      rows = ap (λ (p : Publisher). p.rows.items) all;
      did = λ d e.
          subst (λ (s : Side). Did old.config now old.rows.items old.senders.items new.out looked s (get_or new.sides.items place e)) (get_or_read old.sides.items place was low was_is d)
          (subst (λ (s : Side). Did old.config now old.rows.items old.senders.items new.out looked was s) (sym (here e))
          (subst (λ (o : Datagrams). Did old.config now old.rows.items old.senders.items o looked was is) (sym out)
          (subst (λ (s : List SenderState). Did old.config now old.rows.items s mid.out looked was is) senders_are
          (subst (λ (r : List Sampled). Did old.config now r senders mid.out looked was is) rows_are did))));
      others = λ e. sides ∙ ap (λ (s : Side). set old.sides.items place s) (sym (here e));
      senders = λ d.
          subst (λ (s : Side). LeavesSenders old.config s.index looked old.senders.items new.senders.items) (get_or_read old.sides.items place was low was_is d)
          (subst (λ (l : List SenderState). LeavesSenders old.config was.index looked old.senders.items l) (sym (ap (λ (p : Publisher). p.senders.items) all ∙ left_are))
          (subst (λ (l : List SenderState). LeavesSenders old.config was.index looked l left) senders_are numbers));
      counts = counts-on looked old mid new but counts;
      from = λ d. subst (λ (s : Side). IsFrom looked s.index new) (get_or_read old.sides.items place was low was_is d) from;
    }

-- an element of a list that isn't empty
pub some-side : (sides : List Side) (place : ℕ) → place < length sides → Side
some-side [] place low = absurd (omega (arith, low))
some-side (side ∷ sides) place low = side

-- a look that made no datagram leaves the senders
passed-stay : (looked : Looked) (config : Config) (index : ℕ) (old new : List SenderState) → IsPassed looked → LeavesSenders config index looked old new → new ≡ old
passed-stay Idle config index old new passed leaves = leaves
passed-stay Held config index old new passed leaves = leaves
passed-stay (Made made) config index old new passed leaves = numbered-none config index old new (subst (λ (n : ℕ). HasNumbered config index n old new) passed leaves)

pub looked-stay : (place now : ℕ) (looked : Looked) (old new : Publisher) → place < length old.sides.items → IsPassed looked → HasLooked place now looked old new
    → new.senders.items ≡ old.senders.items
looked-stay place now looked old new low passed has =
    let d = some-side old.sides.items place low in
    passed-stay looked old.config (get_or old.sides.items place d).index old.senders.items new.senders.items passed (has.senders d)

-- ---- all looks

-- what the groups did so far, of whom so many were looked at
pub record SoFar (does : Looked → Side → Side → Type 0) (count : ℕ) (held : Bool) (old new : List Side) : Type 0 where
  pub did : List Looked
  pub count_is : length did ≡ count
  pub done : AllDid does did old new
  pub passed : All IsPassed did
  pub quiet : held ≡ false → All IsQuiet did
  pub held_is : held ≡ true → Contains did Held

pub none-so-far : (does : Looked → Side → Side → Type 0) (old : List Side) → SoFar does 0 false old old
none-so-far does old = record {
  did = [];
  count_is = refl;
  done = refl;
  passed = All-nil IsPassed;
  quiet = λ is. All-nil IsQuiet;
  held_is = λ is. absurd (false≢true is);
}

did-more : (does : Looked → Side → Side → Type 0) (did : List Looked) (old mid : List Side) (looked : Looked) (is : Side) → length did < length old → AllDid does did old mid
    → ((d : Side) → does looked (get_or mid (length did) d) is) → AllDid does (did ++ (looked ∷ [])) old (set mid (length did) is)
did-more does [] [] mid looked is low done so = absurd (omega (arith, low))
did-more does [] (x ∷ old) mid looked is low done so =
    subst (λ (m : List Side). AllDid does (looked ∷ []) (x ∷ old) (set m 0 is)) (sym done)
    (subst (λ (m : List Side). does looked (get_or m 0 x) is) done (so x), refl)
did-more does (l ∷ did) [] mid looked is low done so = absurd done
did-more does (l ∷ did) (x ∷ old) [] looked is low done so = absurd done
did-more does (l ∷ did) (x ∷ old) (y ∷ mid) looked is low done so = (done.0, did-more does did old mid looked is (omega (arith, low)) done.1 so)

-- a look that made no datagram, and told whether it was held
quiet-more : (looked : Looked) → IsPassed looked → is_held looked ≡ false → IsQuiet looked
quiet-more Idle passed held = tt
quiet-more Held passed held = absurd (false≢true (sym held))
quiet-more (Made made) passed held = passed

held-more : (looked : Looked) → is_held looked ≡ true → looked ≡ Held
held-more Idle held = absurd (false≢true held)
held-more Held held = refl
held-more (Made made) held = absurd (false≢true held)

pub so-far-more : (does : Looked → Side → Side → Type 0) (count : ℕ) (held more next : Bool) (old mid : List Side) (looked : Looked) (is : Side) → count < length old
    → next ≡ (held || more) → more ≡ is_held looked → IsPassed looked → ((d : Side) → does looked (get_or mid count d) is) → SoFar does count held old mid
    → SoFar does (count + 1) next old (set mid count is)
so-far-more does count held more next old mid looked is low either tells passed so far =
    let at = far.count_is in
    record {
      did = far.did ++ (looked ∷ []);
      count_is = length_push far.did looked ∙ ap (λ (n : ℕ). n + 1) at;
      done = subst (λ (n : ℕ). AllDid does (far.did ++ (looked ∷ [])) old (set mid n is)) at
          (did-more does far.did old mid looked is (omega (arith, low, at)) far.done (subst (λ (n : ℕ). (d : Side) → does looked (get_or mid n d) is) (sym at) so));
      passed = All-push IsPassed far.did looked far.passed passed;
      quiet = λ is_not. quiet-by held more (sym either ∙ is_not) far.quiet (λ no. quiet-more looked passed (sym tells ∙ no));
      held_is = λ is_so. held-by held more (sym either ∙ is_so) far.held_is (λ yes. held-more looked (sym tells ∙ yes));
    }
  where
    quiet-by : (one other : Bool) → (one || other) ≡ false → (one ≡ false → All IsQuiet far.did) → (other ≡ false → IsQuiet looked) → All IsQuiet (far.did ++ (looked ∷ []))
    quiet-by false false is_not before own = All-push IsQuiet far.did looked (before refl) (own refl)
    quiet-by false true is_not before own = absurd (false≢true (sym is_not))
    quiet-by true other is_not before own = absurd (false≢true (sym is_not))

    held-by : (one other : Bool) → (one || other) ≡ true → (one ≡ true → Contains far.did Held) → (other ≡ true → looked ≡ Held) → Contains (far.did ++ (looked ∷ [])) Held
    held-by true other is_so before own = Contains-append_left far.did (looked ∷ []) Held (before refl)
    held-by false true is_so before own = subst (λ (l : Looked). Contains (far.did ++ (looked ∷ [])) l) (own refl) (Contains-push far.did looked)
    held-by false false is_so before own = absurd (false≢true is_so)

-- what a look did, by what stood at the beginning of all
pub does-so : (now : ℕ) (looked : Looked) (old mid : Publisher) (out : Datagrams) (was is : Side) → mid.config ≡ old.config → mid.rows.items ≡ old.rows.items
    → mid.senders.items ≡ old.senders.items → Did mid.config now mid.rows.items mid.senders.items out looked was is
    → Does old.config now old.rows.items old.senders.items looked was is
does-so now looked old mid out was is config rows senders did = record {
  out = out;
  did = subst (λ (k : Config). Did k now old.rows.items old.senders.items out looked was is) config
      (subst (λ (r : List Sampled). Did mid.config now r old.senders.items out looked was is) rows
      (subst (λ (s : List SenderState). Did mid.config now mid.rows.items s out looked was is) senders did));
}

-- a look behind which no datagram waits made none
pub passed-so : (looked : Looked) (old new : Publisher) → Counts looked old new → new.made ≤ new.handed → IsPassed looked
passed-so Idle old new counts none = tt
passed-so Held old new counts none = tt
passed-so (Made made) old new counts none = omega (arith, counts.0, counts.1, none)

-- one look more, at the publisher as the looks before it left it
pub so-far-looked : (now place : ℕ) (held more next : Bool) (looked : Looked) (old mid new : Publisher) → place < length old.sides.items → place < length mid.sides.items
    → next ≡ (held || more) → more ≡ is_held looked → IsPassed looked → mid.config ≡ old.config → mid.rows.items ≡ old.rows.items → mid.senders.items ≡ old.senders.items
    → HasLooked place now looked mid new → SoFar (Does old.config now old.rows.items old.senders.items) place held old.sides.items mid.sides.items
    → (length new.sides.items ≡ length mid.sides.items) × SoFar (Does old.config now old.rows.items old.senders.items) (place + 1) next old.sides.items new.sides.items
so-far-looked now place held more next looked old mid new low low_mid either tells passed config rows senders has far = by_some (some-side mid.sides.items place low_mid)
  where
    by_some : Side → (length new.sides.items ≡ length mid.sides.items) × SoFar (Does old.config now old.rows.items old.senders.items) (place + 1) next old.sides.items new.sides.items
    by_some d =
        let is = get_or new.sides.items place d in
        let sides : new.sides.items ≡ set mid.sides.items place is = has.others d in (
          ap (λ (l : List Side). length l) sides ∙ length-set mid.sides.items place is,
          subst (λ (l : List Side). SoFar (Does old.config now old.rows.items old.senders.items) (place + 1) next old.sides.items l) (sym sides)
              (so-far-more (Does old.config now old.rows.items old.senders.items) place held more next old.sides.items mid.sides.items looked is low either tells passed
              (λ e. does-so now looked old mid new.out (get_or mid.sides.items place e) is config rows senders (has.did e d)) far),
        )

-- the groups by the publisher as it is left
does-there : (now : ℕ) (senders : List SenderState) (old new : Publisher) (did : List Looked) (sides others : List Side) → new.config ≡ old.config → new.rows.items ≡ old.rows.items
    → AllDid (Does old.config now old.rows.items senders) did sides others → AllDid (Does new.config now new.rows.items senders) did sides others
does-there now senders old new did sides others config rows done =
    subst (λ (k : Config). AllDid (Does k now new.rows.items senders) did sides others) (sym config)
    (subst (λ (r : List Sampled). AllDid (Does old.config now r senders) did sides others) (sym rows) done)

pub all-done : (now : ℕ) (held : Bool) (so : List Looked → Type 0) (old new : Publisher) (count : ℕ) → count ≡ length old.sides.items → new.config ≡ old.config
    → new.rows.items ≡ old.rows.items → new.senders.items ≡ old.senders.items
    → new.made ≤ new.handed → (far : SoFar (Does old.config now old.rows.items old.senders.items) count held old.sides.items new.sides.items) → so far.did
    → HaveAllDone now old.senders.items old.sides.items so new
all-done now held so old new count all config rows senders none far is = record {
  did = far.did;
  count = far.count_is ∙ all;
  is_so = is;
  done = does-there now old.senders.items old new far.did old.sides.items new.sides.items config rows far.done;
  senders_are = senders;
  none_waits = none;
}

made-some-by : (now place made : ℕ) (held : Bool) (old mid new : Publisher) → place < length mid.sides.items → mid.config ≡ old.config → mid.rows.items ≡ old.rows.items → mid.senders.items ≡ old.senders.items
    → SoFar (Does old.config now old.rows.items old.senders.items) place held old.sides.items mid.sides.items → HasLooked place now (Made made) mid new → new.handed < new.made
    → HasMadeSome now old.senders.items old.sides.items new
made-some-by now place made held old mid new low config rows senders far looked waits =
    let new_config = looked.config ∙ config in
    let new_rows = looked.rows ∙ rows in
    record {
      did = far.did;
      passed = far.passed;
      mid = mid.sides.items;
      within = omega (arith, low, far.count_is);
      done = does-there now old.senders.items old new far.did old.sides.items mid.sides.items new_config new_rows far.done;
      turn = subst (λ (n : ℕ). HoldsAt (λ (was : Side). HoldsAt (HasItsTurn new.config now new.rows.items old.senders.items new.out new.made was) new.sides.items n) mid.sides.items n) (sym far.count_is)
          (λ d e.
          subst (λ (k : Config). HasItsTurn k now new.rows.items old.senders.items new.out new.made (get_or mid.sides.items place d) (get_or new.sides.items place e)) (sym looked.config)
          (subst (λ (r : List Sampled). HasItsTurn mid.config now r old.senders.items new.out new.made (get_or mid.sides.items place d) (get_or new.sides.items place e)) (sym looked.rows)
          (subst (λ (s : List SenderState). HasItsTurn mid.config now mid.rows.items s new.out new.made (get_or mid.sides.items place d) (get_or new.sides.items place e)) senders
          (subst (λ (n : ℕ). HasItsTurn mid.config now mid.rows.items mid.senders.items new.out n (get_or mid.sides.items place d) (get_or new.sides.items place e)) (sym looked.counts.0)
          (looked.did d e)))));
      others = subst (λ (n : ℕ). HoldsAt (λ (is : Side). new.sides.items ≡ set mid.sides.items n is) new.sides.items n) (sym far.count_is) looked.others;
      numbers = subst (λ (n : ℕ). HoldsAt (λ (was : Side). HasNumbered new.config was.index new.made old.senders.items new.senders.items) mid.sides.items n) (sym far.count_is)
          (λ d.
          subst (λ (k : Config). HasNumbered k (get_or mid.sides.items place d).index new.made old.senders.items new.senders.items) (sym looked.config)
          (subst (λ (s : List SenderState). HasNumbered mid.config (get_or mid.sides.items place d).index new.made s new.senders.items) senders
          (subst (λ (n : ℕ). HasNumbered mid.config (get_or mid.sides.items place d).index n mid.senders.items new.senders.items) (sym looked.counts.0) (looked.senders d))));
      from = subst (λ (n : ℕ). HoldsAt (λ (was : Side). new.from ≡ was.index) mid.sides.items n) (sym far.count_is) looked.from;
      some = omega (arith, waits);
      handed = looked.counts.1;
    }

-- a look behind which a datagram waits, where none did before, had a turn
pub made-some : (now place : ℕ) (held : Bool) (looked : Looked) (old mid new : Publisher) → place < length mid.sides.items → mid.config ≡ old.config → mid.rows.items ≡ old.rows.items
    → mid.senders.items ≡ old.senders.items → mid.made ≤ mid.handed
    → SoFar (Does old.config now old.rows.items old.senders.items) place held old.sides.items mid.sides.items → HasLooked place now looked mid new → new.handed < new.made
    → HasMadeSome now old.senders.items old.sides.items new
made-some now place held Idle old mid new low config rows senders none far looked waits = absurd (omega (arith, none, waits, looked.counts.0, looked.counts.1))
made-some now place held Held old mid new low config rows senders none far looked waits = absurd (omega (arith, none, waits, looked.counts.0, looked.counts.1))
made-some now place held (Made made) old mid new low config rows senders none far looked waits = made-some-by now place made held old mid new low config rows senders far looked waits
