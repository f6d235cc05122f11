-- The sessions of a script with a fate over a link in memory.
use Rattle.std.proofs.Common.{◌≡◌, refl, sym, ap, ◌∙◌, subst, lit<, lit≤, ℕ, ◌<◌, ◌≤◌, Bool, true, false, List, [], ◌∷◌, ◌++◌, length, map, All, Option, Some, None, append_assoc}
use Rattle.std.specs.Prelude.{reverse}
use Rattle.std.specs.List.{range_with_len}
use Rattle.std.proofs.lemmas.List.Elements.{All-cons, All-nil}
use Rattle.pubsub_model.specs.declared.reading.Why.TheVariants.{Start}
use Rattle.row_words.specs.Belonging.{row_in, spelled_row, spelled_statuses, statuses_in, cut_words}
use Rattle.row_words.specs.Patches.{patch_in, patched_words}
use Rattle.ua_base.specs.declared.link.Fate.{Fate}
use Rattle.ua_base.specs.declared.link.Fate.TheVariants as fates
use Rattle.ua_base.specs.Journal.{Entry, Sent, Got, Empty, LinkState}
use Rattle.ua_base.specs.Links.{Making, Opening}
use Rattle.ua_binary.specs.ReadingValues.{block_at, text_at, kind_at, variant_at, times_past, parts_at, data_value_at}
use Rattle.uadp_header.specs.Formats.{◌>>=◌, read}
use Rattle.uadp_header.specs.Layout.{byte, number, block, when, byte_when, text, publisher_id, group_numbers, group_when, payload_header, ids_when, extras, security_header, parts, header, header_at}
use Rattle.uadp_header.specs.Spelling.{header_len, header_bytes, flags_bytes, group_bytes, security_bytes}
use Rattle.frame_codec.specs.Contents.{field_at, surplus_at, whole_at, change_at, patch_at, content_at}
use Rattle.frame_codec.specs.Fronts.{flags1_at, flags2_at, times_past as front_times, parts_at as front_parts, front_at}
use Rattle.frame_codec.specs.Reading.{behind_front, message_at, frame_at}
use Rattle.frame_codec.specs.Spelling.{front_bytes, frame_bytes}
use Rattle.mem_edge.specs.declared.memory_link.MemoryLink.{MemoryLink}
use Rattle.mem_edge.specs.MemoryLinks.{made_by, opened_by, told_by}
use Rattle.mem_edge.specs.Queueing.{queued_by}
use Rattle.mem_edge.specs.Sends.{sends_in}
use Rattle.mem_edge.specs.Standings.{IsFated, Settings, Standing, at_opening, obeying}
use Rattle.ps_config.specs.BuiltIn.{built_in_config, built_in_group, built_in_read_group, built_in_reader, built_in_writer, demo}
use Rattle.ps_report.specs.declared.closed.Closed.{Closed}
use Rattle.ps_report.specs.declared.closed.WatchEnd.{WatchEnd}
use Rattle.ps_script.specs.declared.script.Line.{Line}
use Rattle.ps_script.specs.Sessions.{fates_of}
use Rattle.reader_group.specs.Settings.{no_keys}
use Rattle.writer_group.specs.declared.sampled.Sampled.{Sampled}
use Rattle.version_cell.specs.Histories.{opening_words}
use Rattle.session_model.specs.Closing.{IsClosedAfter}
use Rattle.session_model.specs.Counts.{longest_datagram}
use Rattle.session_model.specs.Sends.{IsPump, IsRun, Send, journal, send_entries, sends_of}
use Rattle.session_model.specs.Steps.{Plan, Step, Tick, Pump}
use Rattle.session_laws.specs.Witness.{seven, small_datagram, small_plan, small_row}
use Rattle.script_player.specs.Playing.{IsPlayed, IsTickedBy, samples_after}
use Rattle.script_player.specs.Plays.{by_threads, opening_of, writers_in}
use Rattle.play_laws.specs.Small.{EndsBehind, IsPlayedOver, both_lost, fate_line, first_lost, last_lost, obedient, small_script, tick_line, write_line}
use Rattle.play_laws.specs.Taking.{IsOfItsCalls}
use Rattle.play_laws.proofs.Calls.{divides, emptied, one-done, pump-takes, run}

-- ---- two sends, each with a pump behind it

none-sent : (waiting : List (List ℕ)) → sends_in (map Got waiting ++ Empty ∷ []) ≡ []
none-sent [] = refl
none-sent (datagram ∷ waiting) = none-sent waiting

abbrev one : List ℕ → List Send
one datagram = record { group = 0; datagram = datagram } ∷ []

abbrev received : List (List ℕ) → List Entry
received waiting = map Got waiting ++ Empty ∷ []

abbrev AreShort : List (List ℕ) → Type 0
AreShort waiting = All (λ datagram. length datagram ≤ longest_datagram) waiting

-- what waits behind each of two sends
record Wait (fated : List (ℕ × Fate)) (d0 d1 : List ℕ) (w0 w1 : List (List ℕ)) : Type 0 where
  first : queued_by fated [] [] d0 ≡ w0
  last : queued_by fated [] (Some d0 ∷ []) d1 ≡ w1
  few0 : length w0 < 65536
  few1 : length w1 < 65536
  short0 : AreShort w0
  short1 : AreShort w1

record Both (done0 done1 : List Bool) (e0 e1 : List Entry) (w0 w1 : List (List ℕ)) : Type 0 where
  done_first : done0 ≡ true ∷ []
  got_first : e0 ≡ received w0
  done_last : done1 ≡ true ∷ []
  got_last : e1 ≡ received w1

both : (fated : List (ℕ × Fate)) (d0 d1 : List ℕ) (w0 w1 : List (List ℕ)) → Wait fated d0 d1 w0 w1 → (done0 done1 : List Bool) (e0 e1 : List Entry) → length done0 ≡ 1 → length done1 ≡ 1 → IsPump 65536 e0 → IsPump 65536 e1
    → IsOfItsCalls (obeying fated) (send_entries (one d0) done0 ++ (e0 ++ (send_entries (one d1) done1 ++ e1))) → Both done0 done1 e0 e1 w0 w1
both fated d0 d1 w0 w1 waits done0 done1 e0 e1 len0 len1 pump0 pump1 total =
    let settings : Settings = obeying fated in
    let x0 = send_entries (one d0) done0 in
    let x1 = send_entries (one d1) done1 in
    let a : Standing = run settings at_opening x0 in
    let b : Standing = run settings a e0 in
    let c : Standing = run settings b x1 in
    let s0 = divides settings x0 (e0 ++ (x1 ++ e1)) at_opening total in
    let k0 = one-done settings refl at_opening 0 d0 done0 len0 s0.front in
    let s1 = divides settings e0 (x1 ++ e1) a s0.back in
    let a_waits : a.state.waiting ≡ w0 = ap (λ (done : List Bool). (run settings at_opening (send_entries (one d0) done)).state.waiting) k0.all ∙ k0.waits ∙ waits.first in
    let got0 = pump-takes settings refl 65536 w0 a e0 a_waits waits.few0 waits.short0 pump0 s1.front in
    let s2 = divides settings x1 e1 b s1.back in
    let b_waits : b.state.waiting ≡ [] = ap (λ (l : List Entry). (run settings a l).state.waiting) got0 ∙ emptied settings refl w0 a a_waits in
    let b_journal : b.state.journal ≡ Sent d0 ∷ received w0 =
    s1.front ∙ ap (λ (l : List Entry). l ++ e0) s0.front ∙ ap (λ (done : List Bool). send_entries (one d0) done ++ e0) k0.all ∙ ap (λ (l : List Entry). Sent d0 ∷ l) got0 in
    let b_sends : sends_in b.state.journal ≡ Some d0 ∷ [] = ap sends_in b_journal ∙ ap (λ (l : List (Option (List ℕ))). Some d0 ∷ l) (none-sent w0) in
    let k1 = one-done settings refl b 0 d1 done1 len1 s2.front in
    let c_waits : c.state.waiting ≡ w1 =
    ap (λ (done : List Bool). (run settings b (send_entries (one d1) done)).state.waiting) k1.all ∙ k1.waits
    ∙ ap (λ (l : List (List ℕ)). l ++ queued_by fated [] (sends_in b.state.journal) d1) b_waits
    ∙ ap (λ (l : List (Option (List ℕ))). queued_by fated [] l d1) b_sends ∙ waits.last in
    let got1 = pump-takes settings refl 65536 w1 c e1 c_waits waits.few1 waits.short1 pump1 s2.back in
    record { done_first = k0.all; got_first = got0; done_last = k1.all; got_last = got1 }

-- ---- the script's steps

abbrev ticked : List Bool → List Step
ticked done = Tick 100 false (seven ∷ []) done ∷ []

abbrev ended : List Bool → List Bool → List Entry → List Entry → List Step
ended done0 done1 e0 e1 = Pump e1 ∷ Tick 0 true (seven ∷ []) done1 ∷ Pump e0 ∷ ticked done0

first-sends : (done : List Bool) → sends_of small_plan (ticked done) ≡ one (small_datagram 0)
unfolding small_plan built_in_config built_in_group built_in_writer built_in_read_group built_in_reader demo seven row_in statuses_in spelled_row spelled_statuses cut_words header_len header_bytes flags_bytes group_bytes security_bytes front_bytes frame_bytes
first-sends done = refl

last-sends : (done0 done1 : List Bool) (e0 : List Entry) → sends_of small_plan (Tick 0 true (seven ∷ []) done1 ∷ Pump e0 ∷ ticked done0) ≡ one (small_datagram 1)
unfolding small_plan built_in_config built_in_group built_in_writer built_in_read_group built_in_reader demo seven row_in statuses_in spelled_row spelled_statuses cut_words header_len header_bytes flags_bytes group_bytes security_bytes front_bytes frame_bytes
last-sends done0 done1 e0 = refl

-- what both sends queue, of which each pump takes all
abbrev Waits : List (ℕ × Fate) → List (List ℕ) → List (List ℕ) → Type 0
Waits fated w0 w1 = Wait fated (small_datagram 0) (small_datagram 1) w0 w1

abbrev settled : List (List ℕ) → List (List ℕ) → List Step
settled w0 w1 = ended (true ∷ []) (true ∷ []) (received w0) (received w1)

determined : (fated : List (ℕ × Fate)) (w0 w1 : List (List ℕ)) → Waits fated w0 w1 → (done0 done1 : List Bool) (e0 e1 : List Entry) → IsRun small_plan (ended done0 done1 e0 e1)
    → IsOfItsCalls (obeying fated) (journal small_plan (ended done0 done1 e0 e1)) → ended done0 done1 e0 e1 ≡ settled w0 w1
determined fated w0 w1 waits done0 done1 e0 e1 ran total =
    let sends0 = first-sends done0 in
    let sends1 = last-sends done0 done1 e0 in
    let len0 = ran.1.1.1.0 ∙ ap (λ (l : List Send). length l) sends0 in
    let len1 = ran.1.0 ∙ ap (λ (l : List Send). length l) sends1 in
    let x0 = send_entries (one (small_datagram 0)) done0 in
    let x1 = send_entries (one (small_datagram 1)) done1 in
    let same : journal small_plan (ended done0 done1 e0 e1) ≡ x0 ++ (e0 ++ (x1 ++ e1)) =
    ap (λ (l : List Send). ((send_entries l done0 ++ e0) ++ send_entries (sends_of small_plan (Tick 0 true (seven ∷ []) done1 ∷ Pump e0 ∷ ticked done0)) done1) ++ e1) sends0
    ∙ ap (λ (l : List Send). ((x0 ++ e0) ++ send_entries l done1) ++ e1) sends1
    ∙ append_assoc (x0 ++ e0) x1 e1 ∙ append_assoc x0 e0 (x1 ++ e1) in
    let all = both fated (small_datagram 0) (small_datagram 1) w0 w1 waits done0 done1 e0 e1 len0 len1 ran.1.1.0 ran.0 (subst (IsOfItsCalls (obeying fated)) same total) in
    ap (λ (done : List Bool). ended done done1 e0 e1) all.done_first ∙ ap (λ (done : List Bool). ended (true ∷ []) done e0 e1) all.done_last
    ∙ ap (λ (l : List Entry). ended (true ∷ []) (true ∷ []) l e1) all.got_first ∙ ap (λ (l : List Entry). ended (true ∷ []) (true ∷ []) (received w0) l) all.got_last

-- ---- the lines

written : samples_after small_plan.full (write_line ∷ []) ≡ seven ∷ []
unfolding small_plan demo seven patched_words patch_in row_in statuses_in spelled_row spelled_statuses opening_words
written = refl

-- a fate with the number of its line
abbrev pub Placed : Type 0
Placed = ℕ × (ℕ × Fate)

abbrev pub placed_line : Placed → Line
placed_line placed = fate_line placed.0 placed.1

behind-fates : (p : Plan) (fated : List Placed) (before : List Line) (steps : List Step) (looks : List WatchEnd) → IsPlayed p (map placed_line fated ++ before) steps looks → (looked : List WatchEnd) × IsPlayed p before steps looked
behind-fates p [] before steps looks h = (looks, h)
behind-fates p (fate ∷ fated) before steps looks h =
    let rest = behind-fates p fated before h.0 h.1 h.2 in
    (rest.0, subst (λ (l : List Step). IsPlayed p before l rest.0) (sym h.3.0) rest.1)

first-steps : (steps : List Step) (looks : List WatchEnd) → IsPlayed small_plan (tick_line ∷ write_line ∷ []) steps looks → (done : List Bool) × (entries : List Entry) × (steps ≡ Pump entries ∷ ticked done)
first-steps steps looks h =
    let tick = h.3.0 in
    let wrote = h.2 in (
      tick.0,
      tick.1,
      tick.2 ∙ ap (λ (l : List Step). Pump tick.1 ∷ Tick 100 false (samples_after small_plan.full (write_line ∷ [])) tick.0 ∷ l) (wrote.3.0 ∙ wrote.2.0)
          ∙ ap (λ (samples : List Sampled). Pump tick.1 ∷ Tick 100 false samples tick.0 ∷ []) written,
    )

-- ---- what is known of a play

abbrev settings_for : Making → List (ℕ × Fate) → Settings
settings_for making fated = record { making = making; fates = fated }

-- the law of links in memory, as `mem_edge` has it
abbrev pub FatedLaw : Type 0
FatedLaw = (link : MemoryLink) (state : LinkState) (opening : Opening) → told_by link ≡ Some state → opened_by link ≡ Some opening → IsFated (record { making = made_by link; fates = opening.fates }) state

record Known (fated : List (ℕ × Fate)) (closed : Closed) : Type 0 where
  earlier : List Step
  steps : List Step
  looks : List WatchEnd
  played : IsPlayed small_plan (reverse (small_script fated).lines) earlier looks
  ends : IsTickedBy small_plan (reverse (small_script fated).lines) 0 true earlier steps
  ran : IsRun small_plan steps
  own : IsOfItsCalls (obeying fated) (journal small_plan steps)
  after : IsClosedAfter small_plan steps closed
  histories : map (λ history. history.threads) closed.histories ≡ map (writers_in (small_script fated)) (range_with_len 0 (length built_in_config.dataset))
  watches : closed.watches ≡ by_threads looks

settles : (fated : List (ℕ × Fate)) (back : List Placed) (w0 w1 : List (List ℕ)) (closed : Closed) → reverse (small_script fated).lines ≡ map placed_line back ++ tick_line ∷ write_line ∷ []
    → samples_after small_plan.full (map placed_line back ++ tick_line ∷ write_line ∷ []) ≡ seven ∷ [] → Waits fated w0 w1 → Known fated closed → IsClosedAfter small_plan (settled w0 w1) closed
settles fated back w0 w1 closed lines samples waits k =
    let played = subst (λ (l : List Line). IsPlayed small_plan l k.earlier k.looks) lines k.played in
    let rest = behind-fates small_plan back (tick_line ∷ write_line ∷ []) k.earlier k.looks played in
    let first = first-steps k.earlier rest.0 rest.1 in
    let ends = subst (λ (l : List Line). IsTickedBy small_plan l 0 true k.earlier k.steps) lines k.ends in
    let steps_are : k.steps ≡ ended first.0 ends.0 first.1 ends.1 =
    ends.2 ∙ ap (λ (samples : List Sampled). Pump ends.1 ∷ Tick 0 true samples ends.0 ∷ k.earlier) samples ∙ ap (λ (l : List Step). Pump ends.1 ∷ Tick 0 true (seven ∷ []) ends.0 ∷ l) first.2 in
    let all = determined fated w0 w1 waits first.0 ends.0 first.1 ends.1 (subst (IsRun small_plan) steps_are k.ran)
    (subst (λ (l : List Step). IsOfItsCalls (obeying fated) (journal small_plan l)) steps_are k.own) in
    subst (λ (l : List Step). IsClosedAfter small_plan l closed) (steps_are ∙ all) k.after

module _ (law : FatedLaw) where
  known : (link : MemoryLink) (fated : List (ℕ × Fate)) (closed : Closed) → fates_of (small_script fated).lines ≡ fated → IsPlayedOver link fated closed → Known fated closed
  unfolding small_plan
  known link fated closed same over =
      let is = law link over.state (opening_of built_in_config (small_script fated)) over.tells over.opened in
      let settings : settings_for (made_by link) (fates_of (small_script fated).lines) ≡ obeying fated =
      ap (λ (m : Making). settings_for m (fates_of (small_script fated).lines)) over.made ∙ ap (settings_for obedient) same in
      let own : IsOfItsCalls (obeying fated) over.state.journal = subst (λ (s : Settings). IsOfItsCalls s over.state.journal) settings (ap (λ (s : LinkState). s.journal) is) in
      record {
        earlier = over.played.earlier;
        steps = over.played.steps;
        looks = over.played.looks;
        played = over.played.played;
        ends = over.played.ends;
        ran = over.played.run;
        own = subst (IsOfItsCalls (obeying fated)) (over.played.tells over.state over.tells) own;
        after = over.played.closed_after;
        histories = over.played.histories;
        watches = over.played.watches;
      }

-- ---- what each reader keeps

first-wait : Waits ((0, fates.Drop) ∷ []) [] (small_datagram 1 ∷ [])
first-wait = record {
  first = refl;
  last = refl;
  few0 = lit< tt;
  few1 = lit< tt;
  short0 = All-nil (λ (datagram : List ℕ). length datagram ≤ longest_datagram);
  short1 = All-cons (λ (datagram : List ℕ). length datagram ≤ longest_datagram) (small_datagram 1) [] (lit≤ tt) (All-nil (λ (datagram : List ℕ). length datagram ≤ longest_datagram));
}

last-wait : Waits ((1, fates.Drop) ∷ []) (small_datagram 0 ∷ []) []
last-wait = record {
  first = refl;
  last = refl;
  few0 = lit< tt;
  few1 = lit< tt;
  short0 = All-cons (λ (datagram : List ℕ). length datagram ≤ longest_datagram) (small_datagram 0) [] (lit≤ tt) (All-nil (λ (datagram : List ℕ). length datagram ≤ longest_datagram));
  short1 = All-nil (λ (datagram : List ℕ). length datagram ≤ longest_datagram);
}

none-wait : Waits ((0, fates.Drop) ∷ (1, fates.Drop) ∷ []) [] []
none-wait = record {
  first = refl;
  last = refl;
  few0 = lit< tt;
  few1 = lit< tt;
  short0 = All-nil (λ (datagram : List ℕ). length datagram ≤ longest_datagram);
  short1 = All-nil (λ (datagram : List ℕ). length datagram ≤ longest_datagram);
}

lines-samples : (fated : List Placed) → samples_after small_plan.full (map placed_line fated ++ tick_line ∷ write_line ∷ []) ≡ samples_after small_plan.full (write_line ∷ [])
unfolding small_plan
lines-samples [] = refl
lines-samples (fate ∷ fated) = lines-samples fated

first-ends : (closed : Closed) → IsClosedAfter small_plan first_lost closed → EndsBehind first_lost closed (Some small_row) (Some 1) Start
unfolding small_plan built_in_config built_in_group built_in_writer built_in_read_group built_in_reader demo seven byte number block when byte_when text publisher_id group_numbers group_when payload_header ids_when extras security_header parts header header_at ◌>>=◌ read flags1_at flags2_at front_times front_parts front_at behind_front message_at frame_at field_at surplus_at whole_at change_at patch_at content_at block_at text_at kind_at variant_at times_past parts_at data_value_at no_keys
first-ends closed after = record { after = after; row_is = refl; number_is = refl; why_is = refl }

last-ends : (closed : Closed) → IsClosedAfter small_plan last_lost closed → EndsBehind last_lost closed (Some small_row) (Some 0) Start
unfolding small_plan built_in_config built_in_group built_in_writer built_in_read_group built_in_reader demo seven byte number block when byte_when text publisher_id group_numbers group_when payload_header ids_when extras security_header parts header header_at ◌>>=◌ read flags1_at flags2_at front_times front_parts front_at behind_front message_at frame_at field_at surplus_at whole_at change_at patch_at content_at block_at text_at kind_at variant_at times_past parts_at data_value_at no_keys
last-ends closed after = record { after = after; row_is = refl; number_is = refl; why_is = refl }

both-ends : (closed : Closed) → IsClosedAfter small_plan both_lost closed → EndsBehind both_lost closed None None Start
unfolding small_plan built_in_config built_in_group built_in_writer built_in_read_group built_in_reader demo seven
both-ends closed after = record { after = after; row_is = refl; number_is = refl; why_is = refl }

-- ---- the law

module _ (law : FatedLaw) where
  pub first-so : (link : MemoryLink) (closed : Closed) → IsPlayedOver link ((0, fates.Drop) ∷ []) closed → EndsBehind first_lost closed (Some small_row) (Some 1) Start
  first-so link closed over =
      let k = known law link ((0, fates.Drop) ∷ []) closed refl over in
      first-ends closed (settles ((0, fates.Drop) ∷ []) ((3, (0, fates.Drop)) ∷ []) [] (small_datagram 1 ∷ []) closed refl (lines-samples ((3, (0, fates.Drop)) ∷ []) ∙ written) first-wait k)

  pub last-so : (link : MemoryLink) (closed : Closed) → IsPlayedOver link ((1, fates.Drop) ∷ []) closed → EndsBehind last_lost closed (Some small_row) (Some 0) Start
  last-so link closed over =
      let k = known law link ((1, fates.Drop) ∷ []) closed refl over in
      last-ends closed (settles ((1, fates.Drop) ∷ []) ((3, (1, fates.Drop)) ∷ []) (small_datagram 0 ∷ []) [] closed refl (lines-samples ((3, (1, fates.Drop)) ∷ []) ∙ written) last-wait k)

  pub both-so : (link : MemoryLink) (closed : Closed) → IsPlayedOver link ((0, fates.Drop) ∷ (1, fates.Drop) ∷ []) closed → EndsBehind both_lost closed None None Start
  both-so link closed over =
      let k = known law link ((0, fates.Drop) ∷ (1, fates.Drop) ∷ []) closed refl over in
      both-ends closed (settles ((0, fates.Drop) ∷ (1, fates.Drop) ∷ []) ((4, (1, fates.Drop)) ∷ (3, (0, fates.Drop)) ∷ []) [] [] closed refl (lines-samples ((4, (1, fates.Drop)) ∷ (3, (0, fates.Drop)) ∷ []) ∙ written) none-wait k)

-- ---- its history and its watches

looks-behind : (p : Plan) (fated : List Placed) (before : List Line) (steps : List Step) (looks : List WatchEnd) (h : IsPlayed p (map placed_line fated ++ before) steps looks) → looks ≡ (behind-fates p fated before steps looks h).0
unfolding behind-fates
looks-behind p [] before steps looks h = refl
looks-behind p (fate ∷ fated) before steps looks h = h.3.1 ∙ looks-behind p fated before h.0 h.1 h.2

no-looks : (steps : List Step) (looks : List WatchEnd) → IsPlayed small_plan (tick_line ∷ write_line ∷ []) steps looks → looks ≡ []
no-looks steps looks h = h.3.1 ∙ h.2.3.1 ∙ h.2.2.1

pub record Told (closed : Closed) : Type 0 where
  pub histories : map (λ history. history.threads) closed.histories ≡ (0 ∷ []) ∷ []
  pub watches : closed.watches ≡ []

module _ (law : FatedLaw) where
  pub ends-told : (link : MemoryLink) (fated : List (ℕ × Fate)) (back : List Placed) (closed : Closed) → fates_of (small_script fated).lines ≡ fated → reverse (small_script fated).lines ≡ map placed_line back ++ tick_line ∷ write_line ∷ []
      → map (writers_in (small_script fated)) (0 ∷ []) ≡ (0 ∷ []) ∷ [] → IsPlayedOver link fated closed → Told closed
  unfolding built_in_config
  ends-told link fated back closed same lines authors over =
      let k = known law link fated closed same over in
      let played = subst (λ (l : List Line). IsPlayed small_plan l k.earlier k.looks) lines k.played in
      let rest = behind-fates small_plan back (tick_line ∷ write_line ∷ []) k.earlier k.looks played in
      let none : k.looks ≡ [] = looks-behind small_plan back (tick_line ∷ write_line ∷ []) k.earlier k.looks played ∙ no-looks k.earlier rest.0 rest.1 in
      record { histories = k.histories ∙ authors; watches = k.watches ∙ ap by_threads none }
