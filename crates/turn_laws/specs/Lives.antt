-- Lives, in which rings renew a key group's sender and the read groups with its keys: what comes to a reader, who made it, and what the rings owe.
use Rattle.std.specs.Prelude.{◌≡◌, ⊤, ℕ, ◌+◌, List, [], ◌∷◌, ◌++◌, map, Contains, Bool, true, false, Some, Ok, ◌==◌, if◌then◌else◌, replicate, slice_index_or}
use Rattle.ua_base.specs.Journal as link
use Rattle.ua_base.specs.Journal.{Entry}
use Rattle.pubsub_model.specs.declared.reading.Why.TheVariants.{Timeout}
use Rattle.group_keys.specs.KeySets.{LengthsFit}
use Rattle.group_keys.specs.declared.key_set.KeySet.{KeySet}
use Rattle.message_guard.specs.declared.keys.TokenKeys.{TokenKeys}
use Rattle.message_guard.specs.Protection.{keys_in}
use Rattle.ps_config.specs.declared.parts.Config.{Config}
use Rattle.ps_config.specs.Configs.{is_long}
use Rattle.ps_config.specs.Rings.{key_set}
use Rattle.reader_group.specs.Agreeing.{ChunksNear, MemberIs, SendsRise}
use Rattle.reader_group.specs.Arrivals.{Mark, Way, arrivals_in, cut_on, is_numbered, runs_out, taken_in}
use Rattle.reader_group.specs.Members.{seat_at}
use Rattle.reader_group.specs.Opening.{Opened}
use Rattle.reader_group.specs.Plain.{Setting, PlainGroup, Event, Got, Expired, Stopped, member_at, verdict_in}
use Rattle.reader_group.specs.Settings.{group_at as read_group_at, keygroup_at, setting_of}
use Rattle.reader_group.specs.Signed.{IsSignedBy}
use Rattle.group_laws.specs.Witness.{ones, three_keys}
use Rattle.session_model.specs.Events.{receives}
use Rattle.session_model.specs.Deeds.{tick_deeds}
use Rattle.session_model.specs.Keeping.{AreStepsOf, IsPlan}
use Rattle.session_model.specs.Lives.{Account, IsRunIn, Lived, Renewed, Stepped, TurnsHoldIn, account_in, befalls, steps_in}
use Rattle.session_model.specs.Readings.{read_on, setting_in}
use Rattle.session_model.specs.Sends.{Send, last_sends}
use Rattle.session_model.specs.Steps.{Plan, Step, Enable, Disable, Append, Tick, Pump, moment_of}
use Rattle.writer_group.specs.declared.sampled.Sampled.{Sampled}
use Rattle.session_laws.specs.Delivered.{all_got, sent_on}
use Rattle.session_laws.specs.Readers.{IsMadeFor, Making, SignedAreMade}
use Rattle.session_laws.specs.Plays.{IsAnswerBy, ItemsAre}
use Rattle.session_laws.specs.Reading.{IsMatchedIn}
use Rattle.session_laws.specs.Witness.{three_plan}
use Rattle.turn_laws.specs.Anew.{answered_in}
use Rattle.turn_laws.specs.Makers.{IsWriterUnder}
use Rattle.turn_laws.specs.Sent.{place_near, sends_in}

-- ---- what comes to a reader

-- the reader's list once this befell its group, which stood there with the keys of the setting
abbrev pub mark_on : Setting → Way → PlainGroup → List Mark → Event → List Mark
mark_on setting way group so_far (Got moment on datagram) =
    taken_in setting way moment (slice_index_or on way.index false) group.accepted so_far (verdict_in setting group datagram)
mark_on setting way group so_far (Expired moment) = cut_on (runs_out way moment (arrivals_in so_far)) Timeout so_far
mark_on setting way group so_far (Stopped reader why) = cut_on (reader == way.index) why so_far

-- and once these did
abbrev pub marks_on : Setting → Way → PlainGroup → List Mark → List Event → List Mark
marks_on setting way group so_far [] = so_far
marks_on setting way group so_far (event ∷ before) =
    mark_on setting way (read_on setting group before) (marks_on setting way group so_far before) event

-- *Arrivals*, with the chunks, over a life: each datagram is read with the keys that the group has when it comes
abbrev pub marks_in : Plan → ℕ → Way → List Lived → List Mark
marks_in p r way [] = []
marks_in p r way (Stepped step ∷ before) =
    let reading = (account_in p before).readings r in
    marks_on (setting_in p.config r reading) way reading.value (marks_in p r way before)
    (befalls p.config (steps_in before) step r)
marks_in p r way (Renewed keygroup sets ∷ before) = marks_in p r way before

-- the reader i of the read group r; each place is told by the token and number that it was sent with in the life, and its 16 bits
abbrev pub life_way : Plan → ℕ → ℕ → ℕ → ℕ → ℕ → List Lived → Way
life_way p r i g w k life = record {
  index = i;
  seat = seat_at (setting_of p.config r).seats i;
  place = place_near (sends_in p.config k g w (account_in p life).deeds);
}

-- where chunks' places are near, what is kept for the reader is what *Arrivals* and *Records* have of it
abbrev pub HasItsRecordsIn : Plan → ℕ → ℕ → ℕ → ℕ → ℕ → List Lived → Type 0
HasItsRecordsIn p r i g w k life =
    let way = life_way p r i g w k life in
    let list = marks_in p r way life in
    ChunksNear list → MemberIs way list (member_at ((account_in p life).readings r).value.members i)

-- each item of it is an answer of the writer, at its place, cut to the reader's fields
abbrev pub ComesFromSenderIn : Plan → ℕ → ℕ → ℕ → ℕ → ℕ → List Lived → Type 0
ComesFromSenderIn p r i g w k life =
    let way = life_way p r i g w k life in
    ItemsAre (IsAnswerBy way.seat.part.numbering way.seat.meta (answered_in p g w life)) (arrivals_in (marks_in p r way life))

-- ---- who made it

-- the sender made each datagram of these events that the read group took, which stood there with the keys of the setting
abbrev pub TakenAreMadeOn : Making → Setting → Way → PlainGroup → List Event → Type 0
TakenAreMadeOn m setting way group [] = ⊤
TakenAreMadeOn m setting way group (Got moment on datagram ∷ before) =
    ((opened : Opened) → verdict_in setting (read_on setting group before) datagram ≡ Ok opened → IsMadeFor m setting way datagram)
    × TakenAreMadeOn m setting way group before
TakenAreMadeOn m setting way group (Expired moment ∷ before) = TakenAreMadeOn m setting way group before
TakenAreMadeOn m setting way group (Stopped reader why ∷ before) = TakenAreMadeOn m setting way group before

-- so over a life, with the keys that the group had when each came
abbrev pub TakenAreMadeIn : Making → Plan → ℕ → Way → List Lived → Type 0
TakenAreMadeIn m p r way [] = ⊤
TakenAreMadeIn m p r way (Stepped step ∷ before) =
    let reading = (account_in p before).readings r in
    TakenAreMadeOn m (setting_in p.config r reading) way reading.value (befalls p.config (steps_in before) step r)
    × TakenAreMadeIn m p r way before
TakenAreMadeIn m p r way (Renewed keygroup sets ∷ before) = TakenAreMadeIn m p r way before

-- the sender made each datagram that came with a signature under a key that the read group had then
abbrev pub SignedAreMadeIn : Making → Plan → ℕ → Way → List Lived → Type 0
SignedAreMadeIn m p r way [] = ⊤
SignedAreMadeIn m p r way (Stepped step ∷ before) =
    SignedAreMade m (setting_in p.config r ((account_in p before).readings r)) way (befalls p.config (steps_in before) step r)
    × SignedAreMadeIn m p r way before
SignedAreMadeIn m p r way (Renewed keygroup sets ∷ before) = SignedAreMadeIn m p r way before

-- ---- the link

-- the read group is Operational after this life, and takes the datagram after the first receives of a pump, with the keys that it has then
pub record TakesIn (p : Plan) (r : ℕ) (before : List Lived) (first : List Entry) (datagram : List ℕ) : Type 0 where
  pub operational : receives p.config (steps_in before) r ≡ true
  pub opened : Opened
  pub opens : let reading = (account_in p (Stepped (Pump first) ∷ before)).readings r in
      verdict_in (setting_in p.config r reading) reading.value datagram ≡ Ok opened

-- Each datagram that the read group takes was sent before. Of what it refuses nothing is asked.
abbrev pub TakesWhatWasSentIn : Plan → ℕ → List Lived → Type 0
TakesWhatWasSentIn p r life =
    (later before : List Lived) (first behind : List Entry) (datagram : List ℕ)
    → life ≡ later ++ Stepped (Pump (first ++ link.Got datagram ∷ behind)) ∷ before
    → TakesIn p r before first datagram → Contains (account_in p before).journal (link.Sent datagram)

-- each datagram of these receives that is signed under one of these keys was sent before
abbrev pub AreSentIfSigned : List TokenKeys → List Entry → List Entry → Type 0
AreSentIfSigned keys before entries =
    (datagram : List ℕ) → Contains entries (link.Got datagram) → IsSignedBy keys datagram → Contains before (link.Sent datagram)

-- so in a pump, after a session with this account, of the keys that the read group has then
abbrev pub IsHonestOn : Account → ℕ → Step → Type 0
IsHonestOn a r (Enable id) = ⊤
IsHonestOn a r (Disable id) = ⊤
IsHonestOn a r (Append set field) = ⊤
IsHonestOn a r (Tick ms closing samples done) = ⊤
IsHonestOn a r (Pump entries) = AreSentIfSigned (a.readings r).keys a.journal entries

-- the link delivers nothing else that is signed under a key that the read group has when it comes
abbrev pub IsHonestIn : Plan → ℕ → List Lived → Type 0
IsHonestIn p r [] = ⊤
IsHonestIn p r (Stepped step ∷ before) = IsHonestOn (account_in p before) r step × IsHonestIn p r before
IsHonestIn p r (Renewed keygroup sets ∷ before) = IsHonestIn p r before

-- ---- who made what came

-- what the key group's sender made in a life, where the messages have these bytes
abbrev pub life_making : Plan → ℕ → ℕ → ℕ → List Lived → (ℕ → List ℕ) → Making
life_making p g w k life bytes = record { sent = sends_in p.config k g w (account_in p life).deeds; bytes = bytes }

-- The sender of the key group that the read group names made what this took, with numbers that rise with the places of the writer's messages; and all that came
-- signed, over a link that delivers nothing else that is.
pub record IsMadeBySenderIn (p : Plan) (r i g w k : ℕ) (life : List Lived) : Type 0 where
  pub named : (read_group_at p.config r).keygroup ≡ Some k
  pub bytes : ℕ → List ℕ
  pub rise : SendsRise (sends_in p.config k g w (account_in p life).deeds)
  pub made : TakenAreMadeIn (life_making p g w k life bytes) p r (life_way p r i g w k life) life
  pub signed : IsHonestIn p r life → SignedAreMadeIn (life_making p g w k life bytes) p r (life_way p r i g w k life) life

-- ---- the rings

-- the key sets that a key group has over a life: those of its configuration, and of each ring that renews it
abbrev pub sets_in_life : Config → ℕ → List Lived → List KeySet
sets_in_life config k [] = map key_set (keygroup_at config k).key
sets_in_life config k (Stepped step ∷ before) = sets_in_life config k before
sets_in_life config k (Renewed keygroup sets ∷ before) =
    let earlier = sets_in_life config k before in if keygroup == k then sets ++ earlier else earlier

-- two of these sets with one token give the same keys
abbrev pub TokensNameKeys : List KeySet → Type 0
TokensNameKeys sets =
    (one other : KeySet) → Contains sets one → Contains sets other → one.token ≡ other.token → keys_in one ≡ keys_in other

-- the encrypting keys of each ring that renews the key group are as long as its policy says; of rings for others nothing is asked
abbrev pub FitPolicy : Config → ℕ → List Lived → Type 0
FitPolicy config k [] = ⊤
FitPolicy config k (Stepped step ∷ before) = FitPolicy config k before
FitPolicy config k (Renewed keygroup sets ∷ before) =
    (keygroup ≡ k → LengthsFit (is_long (keygroup_at config k).policy) sets) × FitPolicy config k before

-- ---- all of it

-- A life of so many ticks beside the closing one, whose turns hold, and in which each datagram that the read group takes was sent before.
-- Over all rings of the writer's key group, its configuration's among them, a token has the same keys. Those of the rings that renew it are
-- as long as its policy says.
pub record IsSignedLife (most : ℕ) (p : Plan) (r i g w k : ℕ) (life : List Lived) : Type 0 where
  pub plan : IsPlan p
  pub steps_are : AreStepsOf most p (steps_in life)
  pub turns : TurnsHoldIn p life
  pub run : IsRunIn p life
  pub under : IsWriterUnder p.config k g w
  pub matched : IsMatchedIn p.config r i g w
  pub numbered : is_numbered (seat_at (setting_of p.config r).seats i).part.numbering ≡ true
  pub takes : TakesWhatWasSentIn p r life
  pub named : TokensNameKeys (sets_in_life p.config k life)
  pub lengths : FitPolicy p.config k life

-- ---- a witness

-- the small session of three groups up to its pump: the tick, whose sends are all done
abbrev pub three_sent : List Step
three_sent = sent_on three_plan 0 true (ones ∷ []) []

-- a ring with the key of the configuration and a later one
abbrev pub later_set : KeySet
later_set = record { token = 2; from = 1000; signing = replicate 32 1; encrypting = record { items = replicate 16 1 }; nonce = replicate 4 1 }

abbrev pub later_ring : List KeySet
later_ring = map key_set three_keys.key ++ later_set ∷ []

-- it renews the key group then, and the pump gets all that was sent
abbrev pub between_life : List Lived
between_life = Stepped (Pump (all_got three_plan three_sent)) ∷ Renewed 0 later_ring ∷ map Stepped three_sent

-- ---- a witness with a tick under a ring's token

-- what a tick after this life sends
abbrev pub sends_behind : Plan → ℕ → Bool → List Sampled → List Lived → List Send
sends_behind p ms closing samples before =
    last_sends (tick_deeds p (steps_in before) (moment_of (steps_in before) + ms) closing samples (account_in p before).deeds)

-- such a tick, whose sends are all done
abbrev pub tick_behind : Plan → ℕ → Bool → List Sampled → List Lived → List Lived
tick_behind p ms closing samples before = Stepped (Tick ms closing samples (map (λ send. true) (sends_behind p ms closing samples before))) ∷ before

-- a pump that gets all of these sends
abbrev pub gets_all : List Send → Lived
gets_all sends = Stepped (Pump (map (λ send. link.Got send.datagram) sends ++ link.Empty ∷ []))

-- a tick at a second, under the key of the configuration
abbrev pub one_tick_life : List Lived
one_tick_life = tick_behind three_plan 1000 false (ones ∷ []) []

-- a ring with that key and a later one renews the key group then, and a pump gets all that was sent
abbrev pub renewed_tick_life : List Lived
renewed_tick_life = gets_all (sends_behind three_plan 1000 false (ones ∷ []) []) ∷ Renewed 0 later_ring ∷ one_tick_life

-- the closing tick, at that second too, which is under the ring's later key, and a pump that gets all that it sent
abbrev pub ringed_life : List Lived
ringed_life = gets_all (sends_behind three_plan 0 true (ones ∷ []) renewed_tick_life) ∷ tick_behind three_plan 0 true (ones ∷ []) renewed_tick_life
