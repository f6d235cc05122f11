-- What is relayed never gets older.
use Rattle.std.proofs.Common.{◌≡◌, refl, sym, ap, ◌∙◌, subst, arith, ℕ, ◌+◌, ◌<◌, ◌≤◌, List, [], ◌∷◌, ◌++◌, length, Option, Some, None, inl, inr}
use Rattle.std.specs.Prelude.{◌⊎◌, option_and_then}
use Rattle.config_tables.specs.declared.words.NumberingWord.TheVariants as words
use Rattle.ps_config.specs.declared.parts.Config.{Config}
use Rattle.pubsub_model.specs.Answers.{version_of}
use Rattle.reader_group.specs.Members.{seat_at}
use Rattle.reader_group.specs.Settings.{setting_of}
use Rattle.dataset_meta.specs.Metas.{no_meta}
use Rattle.session_model.specs.Steps as steps
use Rattle.session_model.specs.Steps.{Plan, Step}
use Rattle.session_model.specs.Deeds.{log_at}
use Rattle.writer_group.specs.Parts.{group_at, no_group}
use Rattle.session_model.specs.Events.{reader_at}
use Rattle.session_laws.specs.Reading.{IsMatchedIn}
use Rattle.session_model.specs.Stores.{Store, stores}
use Rattle.session_laws.specs.Headline.{InSession}
use Rattle.gateway_laws.specs.Sources.{Source, source_at}
use Rattle.gateway_laws.specs.Relays.{RelayStep, Enable, Disable, Append, Round, firsts, seconds}
use Rattle.gateway_laws.specs.Origins.{CameWith, HoldsVersionAt, IsMadeAt, IsUncutBetween, IsUncutSince, origin_at, origin_by}
use Rattle.gateway_laws.specs.Gateways.{IsRelay, IsHonestAgain, IsHonestSource, set_of}
use Rattle.gateway_laws.specs.Versions.{versions_kept}
use Rattle.gateway_laws.proofs.Relayed.{set-there}
use Rattle.gateway_laws.proofs.Told.{IsTold, told, told-later}
use Rattle.std.proofs.lemmas.Option.{slice_get-get_or}
use Rattle.gateway_laws.proofs.Behind.{session-behind}
use Rattle.gateway_laws.proofs.Publishing.{in-second}
use Rattle.gateway_laws.proofs.Rising.{Laws, never-older-held}
use Rattle.gateway_laws.proofs.Stored.{held-on, in-first}
use Rattle.gateway_laws.proofs.Storing.{later-extends}
use Rattle.gateway_core.specs.Lived.{plan_again, version_in}

-- ---- the stores

pub seconds-behind : (newer older : List RelayStep) → (later : List Step) × (seconds (newer ++ older) ≡ later ++ seconds older)
seconds-behind [] older = ([], refl)
seconds-behind (Enable id ∷ newer) older = seconds-behind newer older
seconds-behind (Disable id ∷ newer) older = seconds-behind newer older
seconds-behind (Append set field ∷ newer) older = seconds-behind newer older
seconds-behind (Round ms closing samples done entries collected again back ∷ newer) older =
    let h = seconds-behind newer older in
    (steps.Pump back ∷ steps.Tick ms closing collected again ∷ h.0, ap (λ (l : List Step). steps.Pump back ∷ steps.Tick ms closing collected again ∷ l) h.1)

pub stores-rise : Laws → (p : Plan) (second : Config) (sources : List Source) (newer older : List RelayStep) (r i g w : ℕ) (one other : ℕ) → IsRelay p second sources (newer ++ older) → IsMatchedIn second r i g w → g < length second.group
    → IsHonestAgain second r (newer ++ older) → (seat_at (setting_of second r).seats i).part.numbering ≡ words.Message → IsUncutBetween (plan_again second) r i g w (seconds older) (seconds (newer ++ older))
    → HoldsVersionAt (plan_again second) r i g w (seconds older) one → HoldsVersionAt (plan_again second) r i g w (seconds (newer ++ older)) other → one ≤ other
stores-rise laws p second sources newer older r i g w one other is matched there honest numbering uncut old new =
    let q = plan_again second in
    let h = seconds-behind newer older in
    let session = subst (InSession q r i g w) h.1 (in-second p second sources (newer ++ older) r i g w is matched there honest) in
    never-older-held laws q r i g w h.0 (seconds older) one other session numbering
    (subst (λ (l : List Step). IsUncutBetween q r i g w (seconds older) l) h.1 uncut) old (subst (λ (l : List Step). HoldsVersionAt q r i g w l other) h.1 new)

-- ---- the versions

-- of two beginnings of a list one is a beginning of the other
pub record IsLonger (short long : List Step) : Type 0 where
  pub step : Step
  pub more : List Step
  pub is : long ≡ step ∷ more ++ short

pub beginnings : (a b one other : List Step) → a ++ one ≡ b ++ other → ((more : List Step) × (other ≡ more ++ one)) ⊎ IsLonger other one
beginnings a [] one other e = inl (a, sym e)
beginnings [] (step ∷ b) one other e = inr (record { step = step; more = b; is = e })
beginnings (x ∷ a) (y ∷ b) one other e = beginnings a b one other cc

stores_at : Plan → Source → List Step → List Store
stores_at p source now = stores p.config source.read_group source.reader now

-- the later store wasn't made before the earlier one
pub no-longer : (p : Plan) (source : Source) (one other : List Step) (store later_store : ℕ) (made new : Store) → store ≤ later_store → IsMadeAt p source one store made → IsMadeAt p source other later_store new → IsLonger other one → Path ℕ 0 1
no-longer p source one other store later_store made new le at at_later longer =
    let same : steps.Pump at.entries ∷ at.before ≡ longer.step ∷ longer.more ++ other = sym at.ends ∙ longer.is in
    let rest : at.before ≡ longer.more ++ other = cc in
    let more = (later-extends no_meta p.config source.read_group source.reader longer.more other).count in
    let back : length (stores p.config source.read_group source.reader at.before) ≡ length (stores p.config source.read_group source.reader (longer.more ++ other)) = ap (λ (l : List Step). length (stores p.config source.read_group source.reader l)) rest in
    let count : length (stores p.config source.read_group source.reader other) ≡ length (stores p.config source.read_group source.reader at_later.before) + 1 = ap length at_later.stored ∙ omega arith in
    let a = at.number in let b = at_later.number in
    absurd (omega (arith, more, back, count, a, b, le))

number-of : (p : Plan) (source : Source) (now : List Step) (number : Option ℕ) (version : ℕ) → option_and_then (version_of (log_at p source.group source.writer now)) number ≡ Some version
    → (n : ℕ) × (number ≡ Some n) × (version_of (log_at p source.group source.writer now) n ≡ Some version)
number-of p source now None version e = absurd (cc)
number-of p source now (Some n) version e = (n, refl, e)

-- at the end of the pump that made a store the source holds its version
made-holds : (p : Plan) (source : Source) (now : List Step) (store version : ℕ) (made : Store) → IsMadeAt p source now store made → (origin_at p source now).version ≡ Some version
    → HoldsVersionAt p source.read_group source.reader source.group source.writer now version
made-holds p source now store version made at is =
    let member = reader_at p.config source.read_group source.reader now in
    let held = held-on member.kept.row member.kept.number made at.held in
    let found : option_and_then (version_of (log_at p source.group source.writer now)) made.number ≡ Some version = ap (λ (list : List Store). (origin_by p source now list).version) (sym at.stored) ∙ is in
    let n = number-of p source now made.number version found in
    record { row = made.row; row_is = held.0; number = n.0; number_is = held.1 ∙ n.1; named = n.2 }

later-case : Laws → (p : Plan) (source : Source) (all one other : List Step) (store later_store version later_version : ℕ) (made new : Store) → (seat_at (setting_of p.config source.read_group).seats source.reader).part.numbering ≡ words.Message
    → InSession p source.read_group source.reader source.group source.writer other → store ≤ later_store → IsMadeAt p source one store made → IsMadeAt p source other later_store new
    → (origin_at p source one).version ≡ Some version → (origin_at p source other).version ≡ Some later_version → IsUncutBetween p source.read_group source.reader source.group source.writer one other
    → ((more : List Step) × (other ≡ more ++ one)) ⊎ IsLonger other one → version ≤ later_version
later-case laws p source all one other store later_store version later_version made new numbering is le at at_later e f uncut (inl is_more) =
    let r = source.read_group in let i = source.reader in let g = source.group in let w = source.writer in
    let split = is_more.1 in
    never-older-held laws p r i g w is_more.0 one version later_version (subst (InSession p r i g w) split is) numbering (subst (λ (l : List Step). IsUncutBetween p r i g w one l) split uncut)
    (made-holds p source one store version made at e) (subst (λ (l : List Step). HoldsVersionAt p r i g w l later_version) split (made-holds p source other later_store later_version new at_later f))
later-case laws p source all one other store later_store version later_version made new numbering is le at at_later e f uncut (inr longer) =
    let wrong = no-longer p source one other store later_store made new le at at_later longer in absurd (omega (arith, wrong))

pub versions-rise : Laws → (p : Plan) (second : Config) (sources : List Source) (relay : List RelayStep) (set : ℕ) (store later_store one other : ℕ) → IsRelay p second sources relay → set < length second.dataset
    → IsHonestSource p (source_at sources set) (firsts relay) → store ≤ later_store → (old : CameWith p (source_at sources set) (firsts relay) store one) → (new : CameWith p (source_at sources set) (firsts relay) later_store other)
    → IsUncutBetween p (source_at sources set).read_group (source_at sources set).reader (source_at sources set).group (source_at sources set).writer old.was.now new.was.now → one ≤ other
versions-rise laws p second sources relay set store later_store one other is lt honest le old new uncut =
    let source = source_at sources set in
    let r = source.read_group in let i = source.reader in let g = source.group in let w = source.writer in
    let session = session-behind p r i g w new.was.later new.was.now (subst (InSession p r i g w) new.was.split (in-first p second sources relay set is lt honest)) in
    later-case laws p source (firsts relay) old.was.now new.was.now store later_store one other old.made new.made (is.sources_are.each set lt).numbering session le old.was.at new.was.at old.version_is new.version_is uncut
    (beginnings old.was.later new.was.later old.was.now new.was.now (sym old.was.split ∙ new.was.split))

-- ---- what is printed

pub firsts-behind : (newer older : List RelayStep) → (later : List Step) × (firsts (newer ++ older) ≡ later ++ firsts older)
firsts-behind [] older = ([], refl)
firsts-behind (Enable id ∷ newer) older = let h = firsts-behind newer older in (steps.Enable id ∷ h.0, ap (λ (l : List Step). steps.Enable id ∷ l) h.1)
firsts-behind (Disable id ∷ newer) older = let h = firsts-behind newer older in (steps.Disable id ∷ h.0, ap (λ (l : List Step). steps.Disable id ∷ l) h.1)
firsts-behind (Append set field ∷ newer) older = let h = firsts-behind newer older in (steps.Append set field ∷ h.0, ap (λ (l : List Step). steps.Append set field ∷ l) h.1)
firsts-behind (Round ms closing samples done entries collected again back ∷ newer) older =
    let h = firsts-behind newer older in
    (steps.Pump entries ∷ steps.Tick ms closing samples done ∷ h.0, ap (λ (l : List Step). steps.Pump entries ∷ steps.Tick ms closing samples done ∷ l) h.1)

told-all : (p : Plan) (source : Source) (later before : List Step) (store version : ℕ) → IsTold p source before store version → IsTold p source (later ++ before) store version
told-all p source [] before store version h = h
told-all p source (step ∷ later) before store version h = told-later p source step (later ++ before) store version (told-all p source later before store version h)

pub some-store : (p : Plan) (source : Source) (now : List Step) (store : ℕ) (made : Store) → IsMadeAt p source now store made → 1 ≤ store
some-store p source now store made at = let a = at.number in omega (arith, a)

came-case : Laws → (p : Plan) (source : Source) (all : List Step) (store later_store version later_version : ℕ) → (seat_at (setting_of p.config source.read_group).seats source.reader).part.numbering ≡ words.Message
    → InSession p source.read_group source.reader source.group source.writer all → store ≤ later_store → IsUncutSince p source all store → (old : CameWith p source all store version) → (new : CameWith p source all later_store later_version)
    → ((more : List Step) × (new.was.now ≡ more ++ old.was.now)) ⊎ IsLonger new.was.now old.was.now → version ≤ later_version
came-case laws p source all store later_store version later_version numbering is le uncut old new (inl is_more) =
    let r = source.read_group in let i = source.reader in let g = source.group in let w = source.writer in
    let all_is : all ≡ new.was.later ++ (is_more.0 ++ old.was.now) = new.was.split ∙ ap (λ (l : List Step). new.was.later ++ l) is_more.1 in
    let between = uncut old.made old.was new.was.later is_more.0 all_is in
    later-case laws p source all old.was.now new.was.now store later_store version later_version old.made new.made numbering
    (session-behind p r i g w new.was.later new.was.now (subst (InSession p r i g w) new.was.split is)) le old.was.at new.was.at old.version_is new.version_is
    (subst (λ (l : List Step). IsUncutBetween p r i g w old.was.now l) (sym is_more.1) between) (inl is_more)
came-case laws p source all store later_store version later_version numbering is le uncut old new (inr longer) =
    let wrong = no-longer p source old.was.now new.was.now store later_store old.made new.made le old.was.at new.was.at longer in absurd (omega (arith, wrong))

told-case : Laws → (p : Plan) (source : Source) (all : List Step) (store later_store version later_version : ℕ) → (seat_at (setting_of p.config source.read_group).seats source.reader).part.numbering ≡ words.Message
    → InSession p source.read_group source.reader source.group source.writer all → store ≤ later_store → IsUncutSince p source all store → IsTold p source all store version → IsTold p source all later_store later_version → version ≤ later_version
told-case laws p source all store later_store version later_version numbering is le uncut (inl none) new = let zero_is = none.1 in omega (arith, zero_is)
told-case laws p source all store later_store version later_version numbering is le uncut (inr old) (inl none) =
    let some = some-store p source old.was.now store old.made old.was.at in let zero_is = none.0 in absurd (omega (arith, some, zero_is, le))
told-case laws p source all store later_store version later_version numbering is le uncut (inr old) (inr new) =
    came-case laws p source all store later_store version later_version numbering is le uncut old new (beginnings old.was.later new.was.later old.was.now new.was.now (sym old.was.split ∙ new.was.split))

pub printed-rise : Laws → (p : Plan) (second : Config) (sources : List Source) (newer older : List RelayStep) (r i g w : ℕ) (store later_store version later_version : ℕ) → IsRelay p second sources (newer ++ older) → IsMatchedIn second r i g w
    → g < length second.group → IsHonestAgain second r (newer ++ older) → IsHonestSource p (source_at sources (set_of second g w)) (firsts (newer ++ older)) → (seat_at (setting_of second r).seats i).part.numbering ≡ words.Message
    → IsUncutBetween (plan_again second) r i g w (seconds older) (seconds (newer ++ older)) → IsUncutSince p (source_at sources (set_of second g w)) (firsts (newer ++ older)) store
    → HoldsVersionAt (plan_again second) r i g w (seconds older) store → HoldsVersionAt (plan_again second) r i g w (seconds (newer ++ older)) later_store
    → version_in (versions_kept p (source_at sources (set_of second g w)) older) store ≡ Some version → version_in (versions_kept p (source_at sources (set_of second g w)) (newer ++ older)) later_store ≡ Some later_version → version ≤ later_version
printed-rise laws p second sources newer older r i g w store later_store version later_version is matched there honest honest_first numbering uncut uncut_since old new e f =
    let set = set_of second g w in
    let source = source_at sources set in
    let relay = newer ++ older in
    let lt = set-there second g (group_at second g) w is.again_plan.good.sound (slice_get-get_or second.group g no_group there) matched.reads.within in
    let le = stores-rise laws p second sources newer older r i g w store later_store is matched there honest numbering uncut old new in
    let behind = firsts-behind newer older in
    let first_told = subst (λ (l : List Step). IsTold p source l store version) (sym behind.1) (told-all p source behind.0 (firsts older) store version (told p source older store version e)) in
    told-case laws p source (firsts relay) store later_store version later_version (is.sources_are.each set lt).numbering (in-first p second sources relay set is lt honest_first) le uncut_since first_told (told p source relay later_store later_version f)
