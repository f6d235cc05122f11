-- A session that meets what threads left, one after another, and levels their watches.
use Rattle.std.proofs.Common.{◌≡◌, ℕ, ◌+◌, ◌<◌, ◌≤◌, ◌≢◌, List, length, map, get_or, set, sym, ap, ◌∙◌, subst, arith}
use Rattle.std.specs.List.{HoldsAt}
use Rattle.std.proofs.lemmas.List.{get_or-map, get_or-set_other, get_or_default, map-set, set-get_or}
use lib.ListN.{get_or-map as get_or-mapped}
use borrow.Author.Count.{below_more}
use Rattle.version_cell.specs.declared.rule.Entry.{Entry}
use Rattle.version_cell.specs.Histories.{StartsWith}
use Rattle.version_cell.specs.Known.{Known, nothing}
use Rattle.version_cell.specs.Passes.{shared_by}
use Rattle.version_cell.specs.Sets.{JoinEach, pass_at}
use Rattle.version_cell.proofs.Logs.{starts_trans}
use Rattle.version_cell.proofs.Retries.{sees_itself, sees_on}
use Rattle.target_cells.specs.Keeping.{AreLevel}
use Rattle.app_threads.specs.declared.done.Done.{Done}
use Rattle.pubsub_engine.specs.declared.session.Session.{Session}
use Rattle.pubsub_engine.specs.Holding.{keeper_of, passes_of}
use Rattle.script_runner.specs.Finishing.{HasMet, HasStored, SeeMore, unwatched}

-- ---- passes that see more

pub see-itself : (passes : List Known) → SeeMore passes passes
see-itself passes set lt = sees_itself (pass_at passes set)

pub see-on : (first next last : List Known) → length next ≡ length first → SeeMore first next → SeeMore next last → SeeMore first last
see-on first next last same begin on set lt =
    sees_on (pass_at first set) (pass_at next set) (pass_at last set) (begin set lt) (on set (omega (arith, same, lt)))

-- ---- a thread is met

pub join-more : (old others new : List Known) → JoinEach old others new → SeeMore old new
join-more old others new joins set lt = (joins set lt).more

-- it was joined with what was split from the thread's passes
pub join-met : (old passes others new : List Known) → length passes ≡ length old → others ≡ map shared_by passes → JoinEach old others new → (set : ℕ) → set < length old
    → StartsWith (pass_at new set).seen (pass_at passes set).seen
join-met old passes others new same given joins set lt =
    subst (λ (seen : List Entry). StartsWith (pass_at new set).seen seen)
    (ap (λ (l : List Known). (pass_at l set).seen) given ∙ ap (λ (q : Known). q.seen) (get_or-map shared_by passes set nothing nothing (omega (arith, same, lt))))
    (joins set lt).other_too

-- what was met stays so
pub met-on : (old new : Session) (set : ℕ) (done : Done) → SeeMore (passes_of old) (passes_of new) → set < length (passes_of old) → HasMet old set done → HasMet new set done
met-on old new set done more lt met =
    starts_trans (pass_at (passes_of new) set).seen (pass_at (passes_of old) set).seen (pass_at done.passes set).seen (more set lt).seen met

-- one thread more is met
pub met-more : (old new : Session) (sets k : ℕ) (dones : List Done) (done : Done) → length (passes_of old) ≡ sets → SeeMore (passes_of old) (passes_of new)
    → done ≡ get_or dones k done → k < length dones
    → ((t set : ℕ) → t < k → set < sets → HoldsAt (HasMet old set) dones t)
    → ((set : ℕ) → set < sets → HasMet new set done)
    → (t set : ℕ) → t < k + 1 → set < sets → HoldsAt (HasMet new set) dones t
met-more old new sets k dones done count more read within before here t set lt low =
    below_more (λ (j : ℕ). HoldsAt (HasMet new set) dones j) k
    (λ j less d. met-on old new set (get_or dones j d) more (omega (arith, low, count)) (before j set less low d))
    (λ d. subst (HasMet new set) (read ∙ get_or_default dones k done d within) (here set low))
    t lt

-- what was read is written back
pub same-back : {A : Type 0} (now first : List A) (k : ℕ) (x y : A) → now ≡ first → x ≡ get_or now k x → y ≡ x → set now k y ≡ first
same-back {A} now first k x y same read back =
    ap (λ (z : A). set now k z) (back ∙ read) ∙ set-get_or now k x ∙ same

-- ---- the watches of a thread are levelled

pub level-stored : (keeper old new : List Known) → AreLevel keeper old new → (reader : ℕ) → reader < length old → StartsWith (pass_at keeper reader).seen (pass_at old reader).seen
level-stored keeper old new level reader lt =
    let is = level reader lt in
    subst (λ (seen : List Entry). StartsWith seen (pass_at old reader).seen) is.seen is.more.seen

-- the watches of one thread more are levelled
pub stored-more : (first now : Session) (readers k : ℕ) (dones left : List Done) (done : Done) → keeper_of now ≡ keeper_of first
    → done ≡ get_or left k done → k < length left → length left ≡ length dones
    → ((t : ℕ) (d : Done) → k ≤ t → get_or left t d ≡ get_or dones t d)
    → ((t reader : ℕ) → t < k → reader < readers → HoldsAt (HasStored first reader) dones t)
    → ((reader : ℕ) → reader < readers → HasStored now reader done)
    → (t reader : ℕ) → t < k + 1 → reader < readers → HoldsAt (HasStored first reader) dones t
stored-more first now readers k dones left done kept read within count rest before here t reader lt low =
    below_more (λ (j : ℕ). HoldsAt (HasStored first reader) dones j) k
    (λ j less d. before j reader less low d)
    (λ d.
    subst (HasStored first reader) (read ∙ get_or_default left k done d within ∙ rest k d (omega arith))
    (subst (λ (keeper : List Known). StartsWith (pass_at keeper reader).seen (pass_at done.watches reader).seen) kept (here reader low)))
    t lt

-- a thread's watches alone changed
pub unwatched-more : (now first : List Done) (k : ℕ) (done new : Done) → map unwatched now ≡ map unwatched first → done ≡ get_or now k done
    → new ≡ record done { watches = new.watches } → map unwatched (set now k new) ≡ map unwatched first
unwatched-more now first k done new same read is =
    map-set unwatched now k new
    ∙ ap (λ (d : Done). set (map unwatched now) k d) (ap unwatched is ∙ ap unwatched read ∙ sym (get_or-mapped unwatched now k done))
    ∙ set-get_or (map unwatched now) k (unwatched done)
    ∙ same

-- the threads behind are as they were
pub rest-more : (now first : List Done) (k : ℕ) (new : Done) → ((t : ℕ) (d : Done) → k ≤ t → get_or now t d ≡ get_or first t d)
    → (t : ℕ) (d : Done) → k + 1 ≤ t → get_or (set now k new) t d ≡ get_or first t d
rest-more now first k new rest t d le =
    let ne : t ≢ k = (λ same. omega (arith, le, same)) in
    get_or-set_other now k t new d ne ∙ rest t d (omega (arith, le))
