-- The turns of a tick, one group after another.
use Rattle.std.proofs.Common.{◌≡◌, sym, ap, ◌∙◌, subst, arith, ℕ, zero, suc, ◌+◌, ◌<◌, ◌≤◌, ◌≢◌, ◌⊎◌, inl, inr, true, false, List, [], ◌∷◌, ◌++◌, length, Option, get_or}
use Rattle.std.specs.Prelude.{◌==◌, zip}
use Rattle.std.proofs.lemmas.Bool.Decides.{eqb_tells}
use Rattle.std.proofs.lemmas.List.{get_or-set_other, append-nil}
use Rattle.std.proofs.lemmas.List.Elements.{All-weaker}
use Rattle.dataset_meta.specs.Metas.{MetaData}
use Rattle.dataset_writer.specs.declared.writer.Writer.{Writer}
use Rattle.ua_base.specs.Journal.{LinkState}
use Rattle.ps_config.specs.declared.parts.Config.{Config}
use Rattle.pubsub_states.specs.declared.component.Component.TheVariants.{Group as GroupOf}
use Rattle.pubsub_states.specs.Changes.{TreeValue}
use Rattle.writer_group.specs.declared.group.Group.{Group}
use Rattle.writer_group.specs.Standing.{MayGoOn, metas_for}
use Rattle.session_model.specs.Deeds.{Deed, CameTo, group_indexes, is_rekeyed, rekeyed, turned_on}
use Rattle.writer_group.specs.Parts.{group_at}
use Rattle.session_model.specs.Sends.{Send, last_sends, last_failed, send_entries}
use Rattle.session_parts.specs.declared.publisher.Publisher.{Publisher}
use Rattle.session_parts.specs.Holding.{MayAllGoOn}
use Rattle.session_parts.specs.Ticking.{TickData, GoesOnAt, HasPassed, Holds, deeds_to, IsAt, NoneFailedFrom, OthersStay, TakesPart, TellsSoFar, begun, now_of}
use Rattle.session_model.proofs.Sending.{silent-all}
use Rattle.session_parts.proofs.Counting.{fold-more}
use Rattle.session_parts.proofs.Passed.{fewer}

-- when a tick begins nothing was sent yet
pub none-sent : (t : TickData) → last_sends (begun t) ≡ []
none-sent t =
    let config = t.plan.config in
    let earlier = t.account.deeds in
    silent-all (λ g. is_rekeyed config (now_of t) earlier g) (λ g. GroupOf g) (group_indexes config) (CameTo (now_of t) ∷ earlier)

pub passed-none : (t : TickData) (publisher : Publisher) (tree : TreeValue) (told : Option LinkState) → IsAt t (begun t) [] publisher tree
    → HasPassed t 0 publisher tree told told
passed-none t publisher tree told at = record {
  done = [];
  at = at;
  none_failed = λ h low. ap (λ (l : List Send). last_failed h (zip l [])) (none-sent t);
  holds = λ g low. absurd (omega (arith, low));
  tells = λ run link is. run link is ∙ sym (ap (λ (l : List Send). t.account.journal ++ send_entries l []) (none-sent t) ∙ append-nil (t.account.journal));
}

pub passed-more : (t : TickData) (n : ℕ) (old new : Publisher) (tree after : TreeValue) (told mid last : Option LinkState)
    → (h : HasPassed t n old tree told mid) → TakesPart t n (deeds_to t n) h.done new after mid last → HasPassed t (n + 1) new after told last
passed-more t n old new tree after told mid last h passes = record {
  done = h.done ++ passes.more;
  at = subst (λ (d : List Deed). IsAt t d (h.done ++ passes.more) new after) (sym more) passes.at;
  none_failed = subst (λ (d : List Deed). NoneFailedFrom (n + 1) d (h.done ++ passes.more)) (sym more) passes.none_failed;
  holds = λ g below. by_case g below (eqb_tells n g);
  tells = λ run. subst (λ (d : List Deed). TellsSoFar t d (h.done ++ passes.more) last) (sym more) (passes.tells (h.tells run));
}
  where
    more : deeds_to t (n + 1) ≡ turned_on t.plan t.before (now_of t) t.closing t.samples (deeds_to t n) n
    more = fold-more (turned_on t.plan t.before (now_of t) t.closing t.samples) (rekeyed t.plan.config (now_of t) t.account.deeds) n

    by_case : (g : ℕ) → g < n + 1 → ((n == g) ≡ true) × (n ≡ g) ⊎ ((n == g) ≡ false) × (n ≢ g) → Holds t (deeds_to t g) g
    by_case g below (inl same) = subst (λ (k : ℕ). Holds t (deeds_to t k) k) same.1 passes.holds
    by_case g below (inr other) = h.holds g (omega (arith, below, other.1))

nat-either : (a b : ℕ) → (a < b) ⊎ (b ≤ a)
nat-either zero zero = inr (omega arith)
nat-either zero (suc b) = inl (omega arith)
nat-either (suc a) zero = inr (omega arith)
nat-either (suc a) (suc b) = up (nat-either a b)
  where
    up : (a < b) ⊎ (b ≤ a) → (suc a < suc b) ⊎ (suc b ≤ suc a)
    up (inl low) = inl (omega (arith, low))
    up (inr high) = inr (omega (arith, high))

-- ---- the turns that are left

-- the groups before this one have had their turn, and those from it on have not
pub record GoOn (config : Config) (metas : List MetaData) (turns n : ℕ) (groups : List Group) : Type 0 where
  pub had : (g : ℕ) → g < n → g < length config.group → GoesOnAt config metas turns g groups
  pub left : (g : ℕ) → n ≤ g → g < length config.group → GoesOnAt config metas (turns + 1) g groups

pub go-none : (config : Config) (metas : List MetaData) (turns all : ℕ) (groups : List Group) → turns + 1 ≡ all → ((g : ℕ) → g < length config.group → GoesOnAt config metas all g groups)
    → GoOn config metas turns 0 groups
go-none config metas turns all groups is may = record {
  had = λ g low. absurd (omega (arith, low));
  left = λ g at low. subst (λ (n : ℕ). GoesOnAt config metas n g groups) (sym is) (may g low);
}

-- each group may go on for one turn, where it may for some
pub go-one : (config : Config) (metas : List MetaData) (turns : ℕ) (groups : List Group) → 1 ≤ turns → MayAllGoOn config metas turns groups → MayAllGoOn config metas 1 groups
go-one config metas turns groups some may g low d =
    let goes : MayGoOn (metas_for (group_at config g) metas) (group_at config g) turns (get_or groups g d) = may g low d in record {
      left = All-weaker (λ (writer : Writer). turns ≤ writer.left) (λ (writer : Writer). 1 ≤ writer.left) (λ writer more. omega (arith, some, more)) (get_or groups g d).writers.items goes.left;
      holds = goes.holds;
      lived = goes.lived;
    }

pub go-more : (config : Config) (metas : List MetaData) (turns n : ℕ) (old new : List Group) → n < length config.group → OthersStay n old new
    → ((turns : ℕ) → GoesOnAt config metas (turns + 1) n old → GoesOnAt config metas turns n new)
    → GoOn config metas turns n old → GoOn config metas turns (n + 1) new
go-more config metas turns n old new low stay goes so_far = record {
  had = λ g below there. by_case g below there (eqb_tells n g);
  left = λ g at there. other g (turns + 1) (λ same. omega (arith, same, at)) (so_far.left g (omega (arith, at)) there);
}
  where
    other : (g m : ℕ) → (g ≢ n) → GoesOnAt config metas m g old → GoesOnAt config metas m g new
    other g m apart h d =
        subst (λ (w : Group). MayGoOn (metas_for (group_at config g) metas) (group_at config g) m w)
        (sym (ap (λ (l : List Group). get_or l g d) (stay d) ∙ get_or-set_other old n g (get_or new n d) d apart)) (h d)

    by_case : (g : ℕ) → g < n + 1 → g < length config.group → ((n == g) ≡ true) × (n ≡ g) ⊎ ((n == g) ≡ false) × (n ≢ g) → GoesOnAt config metas turns g new
    by_case g below there (inl same) = subst (λ (k : ℕ). GoesOnAt config metas turns k new) same.1 (goes turns (so_far.left n (omega arith) low))
    by_case g below there (inr apart) = other g turns (λ same. apart.1 (sym same)) (so_far.had g (omega (arith, below, apart.1)) there)

pub go-all : (config : Config) (metas : List MetaData) (turns n : ℕ) (groups : List Group) → GoOn config metas turns n groups → (g : ℕ) → g < length config.group → GoesOnAt config metas turns g groups
go-all config metas turns n groups so_far g low = by_case (nat-either g n)
  where
    by_case : (g < n) ⊎ (n ≤ g) → GoesOnAt config metas turns g groups
    by_case (inl before) = so_far.had g before low
    by_case (inr behind) = λ d. fewer (metas_for (group_at config g) metas) (group_at config g) turns (get_or groups g d) (so_far.left g behind low d)
