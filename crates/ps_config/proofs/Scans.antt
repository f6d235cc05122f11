-- What a scan of the tables gives, and what a scan for each fault.
use Rattle.std.proofs.Common.{◌≡◌, Bool, true, false, cond, List, [], ◌∷◌, ◌++◌, Option, Some, None, option_map, refl, ap, subst, append_assoc, append-nil, sym, ◌∙◌}
use Rattle.std.specs.Option.{option_or}
use Rattle.std.specs.List.{AllByRecursion}
use Rattle.config_tables.specs.declared.fault.Fault.{Fault}
use Rattle.config_tables.specs.declared.place.Place.{Place}
use Rattle.ps_config.specs.Meaning.{StandsNowhere, StandsFirst, IsRefusedBy, IsAccepted}
use Rattle.ps_config.specs.Refusals.{stands, faults, first_from, first_at, refusal_by, refusal}
use Rattle.config_tables.specs.Tables.{Located}

abbrev Test : Type 0
Test = List Located → Located → Bool

not_found : (b : Bool) (p : Place) (o : Option Place) → cond b (Some p) o ≡ None → (b ≡ false) × (o ≡ None)
not_found true p o e = absurd (some_none p e)
  where
    some_none : (p : Place) → Some p ≡ None → ⊥
    some_none p e = cc
not_found false p o e = (refl, e)

-- where a scan finds nothing, the test fails at each table
pub scan_none : (test : Test) (before ts : List Located) → first_from test before ts ≡ None
    → (front : List Located) (t : Located) (back : List Located) → ts ≡ front ++ t ∷ back → test (before ++ front) t ≡ false
scan_none test before [] e [] t back is = cc
scan_none test before [] e (f ∷ front) t back is = cc
scan_none test before (x ∷ ts) e [] t back is =
    let same : x ≡ t = cc in
    rw (append-nil before, ← same) (not_found (test before x) x.place _ e).0
scan_none test before (x ∷ ts) e (f ∷ front) t back is =
    let same : x ≡ f = cc in
    let rest : ts ≡ front ++ t ∷ back = cc in
    let ih = scan_none test (before ++ x ∷ []) ts (not_found (test before x) x.place _ e).1 front t back rest in
    rw (← same) (subst (λ (l : List Located). test l t ≡ false) (append_assoc before (x ∷ []) front) ih)

-- what a scan finds: the first table that passes
record Found (test : Test) (before ts : List Located) (place : Place) : Type 0 where
  front : List Located
  table : Located
  back : List Located
  whole : ts ≡ front ++ table ∷ back
  place_is : table.place ≡ place
  here : test (before ++ front) table ≡ true
  none_before : (f : List Located) (s : Located) (b : List Located) → front ≡ f ++ s ∷ b → test (before ++ f) s ≡ false

no_split : (f : List Located) (s : Located) (b : List Located) → [] ≡ f ++ s ∷ b → ⊥
no_split [] s b e = cc
no_split (x ∷ f) s b e = cc

at_once : (test : Test) (before : List Located) (x : Located) (ts : List Located) (place : Place) → test before x ≡ true → Some x.place ≡ Some place → Found test before (x ∷ ts) place
at_once test before x ts place passes e = record {
  front = [];
  table = x;
  back = ts;
  whole = refl;
  place_is = cc;
  here = rw (append-nil before) passes;
  none_before = λ f s b is. absurd (no_split f s b is);
}

none_so_far : (test : Test) (before : List Located) (x : Located) (front : List Located) → test before x ≡ false
    → ((f : List Located) (s : Located) (b : List Located) → front ≡ f ++ s ∷ b → test ((before ++ x ∷ []) ++ f) s ≡ false)
    → (f : List Located) (s : Located) (b : List Located) → x ∷ front ≡ f ++ s ∷ b → test (before ++ f) s ≡ false
none_so_far test before x front fails none [] s b is = let same : x ≡ s = cc in rw (append-nil before, ← same) fails
none_so_far test before x front fails none (y ∷ f) s b is =
    let same : x ≡ y = cc in
    let rest : front ≡ f ++ s ∷ b = cc in
    rw (← same) (subst (λ (l : List Located). test l s ≡ false) (append_assoc before (x ∷ []) f) (none f s b rest))

later : (test : Test) (before : List Located) (x : Located) (ts : List Located) (place : Place) → test before x ≡ false → Found test (before ++ x ∷ []) ts place → Found test before (x ∷ ts) place
later test before x ts place fails found = record {
  front = x ∷ found.front;
  table = found.table;
  back = found.back;
  whole = ap (λ l. x ∷ l) found.whole;
  place_is = found.place_is;
  here = subst (λ (l : List Located). test l found.table ≡ true) (append_assoc before (x ∷ []) found.front) found.here;
  none_before = none_so_far test before x found.front fails found.none_before;
}

scan_some : (test : Test) (before ts : List Located) (place : Place) → first_from test before ts ≡ Some place → Found test before ts place
scan_some test before [] place e = cc
scan_some test before (x ∷ ts) place e = go (test before x) refl e (scan_some test (before ++ x ∷ []) ts place)
  where
    go : (b : Bool) → test before x ≡ b → cond b (Some x.place) (first_from test (before ++ x ∷ []) ts) ≡ Some place
        → (first_from test (before ++ x ∷ []) ts ≡ Some place → Found test (before ++ x ∷ []) ts place) → Found test before (x ∷ ts) place
    go true passes e rest = at_once test before x ts place passes e
    go false fails e rest = later test before x ts place fails (rest e)

stands_first : (ts : List Located) (fault : Fault) (place : Place) → first_at fault ts ≡ Some place → StandsFirst ts fault place
stands_first ts fault place e =
    let found = scan_some (stands fault ts) [] ts place e in
    record { before = found.front; table = found.table; after = found.back; whole = found.whole; place_is = found.place_is; here = found.here; none_before = found.none_before }

neither : (o : Option Place) (fault : Fault) (r : Option (Fault × Place)) → option_or (option_map (λ place. (fault, place)) o) r ≡ None → (o ≡ None) × (r ≡ None)
neither None fault r e = (refl, e)
neither (Some p) fault r e = cc

-- where no fault is found, none stands anywhere
pub none_stands : (fs : List Fault) (ts : List Located) → refusal_by fs ts ≡ None → AllByRecursion (StandsNowhere ts) fs
none_stands [] ts e = tt
none_stands (fault ∷ fs) ts e =
    let both = neither (first_at fault ts) fault (refusal_by fs ts) e in
    (scan_none (stands fault ts) [] ts both.0, none_stands fs ts both.1)

record FoundFault (fs : List Fault) (ts : List Located) (fault : Fault) (place : Place) : Type 0 where
  front : List Fault
  back : List Fault
  order : fs ≡ front ++ fault ∷ back
  none_before : AllByRecursion (StandsNowhere ts) front
  first : StandsFirst ts fault place

found_fault : (fs : List Fault) (ts : List Located) (fault : Fault) (place : Place) → refusal_by fs ts ≡ Some (fault, place) → FoundFault fs ts fault place
found_fault [] ts fault place e = cc
found_fault (f ∷ fs) ts fault place e = go (first_at f ts) refl e (found_fault fs ts fault place)
  where
    go : (o : Option Place) → first_at f ts ≡ o → option_or (option_map (λ p. (f, p)) o) (refusal_by fs ts) ≡ Some (fault, place)
        → (refusal_by fs ts ≡ Some (fault, place) → FoundFault fs ts fault place) → FoundFault (f ∷ fs) ts fault place
    go None nowhere e rest =
        let found = rest e in
        record {
          front = f ∷ found.front;
          back = found.back;
          order = ap (λ l. f ∷ l) found.order;
          none_before = (scan_none (stands f ts) [] ts nowhere, found.none_before);
          first = found.first;
        }
    go (Some p) at e rest =
        let pair : (f, p) ≡ (fault, place) = cc in
        let same : f ≡ fault = ap (λ (q : Fault × Place). q.0) pair in
        let there : p ≡ place = ap (λ (q : Fault × Place). q.1) pair in
        let first : StandsFirst ts f p = stands_first ts f p at in
        subst (λ (g : Fault). FoundFault (f ∷ fs) ts g place) same
        (subst (λ (q : Place). FoundFault (f ∷ fs) ts f q) there
        (record { front = []; back = fs; order = refl; none_before = tt; first = first }))

pub refused_by : (ts : List Located) (fault : Fault) (place : Place) → refusal ts ≡ Some (fault, place) → IsRefusedBy ts fault place
refused_by ts fault place e =
    let found = found_fault faults ts fault place e in
    record { front = found.front; back = found.back; order = found.order; none_before = found.none_before; first = found.first }

pub accepted : (ts : List Located) → refusal ts ≡ None → IsAccepted ts
accepted ts e = none_stands faults ts e

-- a scan passes tables that fail
scan_past : (test : Test) (before front rest : List Located)
    → ((f : List Located) (s : Located) (b : List Located) → front ≡ f ++ s ∷ b → test (before ++ f) s ≡ false)
    → first_from test before (front ++ rest) ≡ first_from test (before ++ front) rest
scan_past test before [] rest none = ap (λ l. first_from test l rest) (sym (append-nil before))
scan_past test before (x ∷ front) rest none =
    let fails : test before x ≡ false = subst (λ (l : List Located). test l x ≡ false) (append-nil before) (none [] x front refl) in
    let later : (f : List Located) (s : Located) (b : List Located) → front ≡ f ++ s ∷ b → test ((before ++ x ∷ []) ++ f) s ≡ false =
    λ f s b is. subst (λ (l : List Located). test l s ≡ false) (sym (append_assoc before (x ∷ []) f)) (none (x ∷ f) s b (ap (λ l. x ∷ l) is)) in
    ap (λ c. cond c (Some x.place) (first_from test (before ++ x ∷ []) (front ++ rest))) fails ∙ scan_past test (before ++ x ∷ []) front rest later
    ∙ ap (λ l. first_from test l rest) (append_assoc before (x ∷ []) front)

none_at : (ts : List Located) (fault : Fault) → StandsNowhere ts fault → first_at fault ts ≡ None
none_at ts fault nowhere =
    ap (first_from (stands fault ts) []) (sym (append-nil ts)) ∙ scan_past (stands fault ts) [] ts [] nowhere

found_at : (ts : List Located) (fault : Fault) (place : Place) → StandsFirst ts fault place → first_at fault ts ≡ Some place
found_at ts fault place s =
    ap (first_from (stands fault ts) []) s.whole ∙ scan_past (stands fault ts) [] s.before (s.table ∷ s.after) s.none_before
    ∙ ap (λ c. cond c (Some s.table.place) (first_from (stands fault ts) (s.before ++ s.table ∷ []) s.after)) s.here ∙ ap Some s.place_is

past_faults : (ts : List Located) (front rest : List Fault) → AllByRecursion (StandsNowhere ts) front → refusal_by (front ++ rest) ts ≡ refusal_by rest ts
past_faults ts [] rest none = refl
past_faults ts (g ∷ front) rest none =
    ap (λ o. option_or (option_map (λ place. (g, place)) o) (refusal_by (front ++ rest) ts)) (none_at ts g none.0) ∙ past_faults ts front rest none.1

-- the first fault that stands is found
pub told : (ts : List Located) (fault : Fault) (place : Place) → IsRefusedBy ts fault place → refusal ts ≡ Some (fault, place)
told ts fault place r =
    ap (λ fs. refusal_by fs ts) r.order ∙ past_faults ts r.front (fault ∷ r.back) r.none_before
    ∙ ap (λ o. option_or (option_map (λ p. (fault, p)) o) (refusal_by r.back ts)) (found_at ts fault place r.first)

pub untold : (ts : List Located) → IsAccepted ts → refusal ts ≡ None
untold ts h = ap (λ fs. refusal_by fs ts) (sym (append-nil faults)) ∙ past_faults ts faults [] h
