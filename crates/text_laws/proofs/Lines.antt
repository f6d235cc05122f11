-- A text of `json` determines its lines and what is read of them.
use Rattle.std.proofs.Common.{◌≡◌, ℕ, ◌+◌, List, [], ◌∷◌, ◌++◌, length, Option, Some, None, Result, Ok, true, refl, sym, ap, ◌∙◌, subst, append_assoc, decimal, arith}
use Rattle.std.specs.Prelude.{⊤, codes, IsSome}
use Rattle.std.specs.List.{list_all}
use Rattle.std.proofs.lemmas.List.{append_cancel_left}
use Rattle.serde_json.specs.Data.{Items}
use Rattle.ua_base.specs.Journal.{LinkState, sent_list}
use Rattle.dataset_meta.specs.Metas.{MetaData}
use Rattle.ps_config.specs.declared.parts.Config.{Config}
use Rattle.ps_config.specs.declared.parts.ReaderPart.{ReaderPart}
use Rattle.ps_script.specs.declared.script.Script.{Script}
use Rattle.ps_report.specs.Reports.{end_line}
use Rattle.report_laws.specs.Numbers.{IsNumber}
use Rattle.report_laws.proofs.Cutting.{cut, head_same, tail_same}
use Rattle.report_laws.proofs.Entries.{number_cut}
use Rattle.json_frames.specs.declared.json_end.JsonEnd.{JsonEnd}
use Rattle.json_frames.specs.Parts.{Part, parts_in}
use Rattle.json_frames.specs.Reading.{ReadAs}
use Rattle.json_frames.specs.Written.{message_json}
use Rattle.json_tap.specs.Keeping.{IsOfLink, counted}
use Rattle.json_tap.specs.Transcoding.{Message, line, lines_from, messages_of, sets_of, skipped_of}
use Rattle.json_text.specs.Matching.{json_readers}
use Rattle.json_text.specs.Reading.{ReadsLine, ReadsLines}
use Rattle.json_text.specs.Texts.{count_line, json_text, lines_text, reader_line, readers_text}
use Rattle.script_player.specs.Plays.{plan_by}
use Rattle.cmd_json.specs.Jsons.{IsJsonOf}
use Rattle.cmd_json.specs.Owned.{AreOwn}
use Rattle.text_laws.specs.Lines.{AreLinesAlike}
use Rattle.text_laws.proofs.OneLine.{is_ink, line_ink}

-- ---- lines behind one another

-- the first byte is this
abbrev Begins : ℕ → List ℕ → Type 0
Begins byte [] = ⊥
Begins byte (first ∷ rest) = first ≡ byte

begins-on : (byte : ℕ) (front rest : List ℕ) → Begins byte front → Begins byte (front ++ rest)
begins-on byte [] rest is = absurd is
begins-on byte (first ∷ front) rest is = is

-- a line that begins with a brace
record IsBraced (text : List ℕ) : Type 0 where
  begins : Begins 123 text
  ink : list_all is_ink text ≡ true

abbrev AreBraced : List (List ℕ) → Type 0
AreBraced [] = ⊤
AreBraced (text ∷ texts) = IsBraced text × AreBraced texts

line-begins : (config : Config) (number : ℕ) (message : Message) → Begins 123 (line config number message)
unfolding message_json
line-begins config number message = refl

written-braced : (config : Config) (number : ℕ) (messages : List Message) → AreBraced (lines_from config number messages)
written-braced config number [] = tt
written-braced config number (message ∷ messages) =
    (record { begins = line-begins config number message; ink = line_ink config number message }, written-braced config (number + 1) messages)

one-line : (x rest s : List ℕ) → ((x ++ (10 ∷ [])) ++ rest) ++ s ≡ x ++ (10 ∷ (rest ++ s))
one-line x rest s = simp append_assoc

letters-differ : (a b : ℕ) → a ≡ 106 → b ≡ 123 → a ≡ b → ⊥
letters-differ a b j brace same = omega arith

-- what begins with a j isn't a line
no-line : (s y : List ℕ) (ys : List (List ℕ)) (t : List ℕ) → Begins 106 s → Begins 123 y → s ≡ lines_text (y ∷ ys) ++ t → ⊥
no-line [] y ys t j brace same = j
no-line (b ∷ s) [] ys t j brace same = brace
no-line (b ∷ s) (c ∷ y) ys t j brace same =
    letters-differ b c j brace (head_same b c s (((y ++ (10 ∷ [])) ++ lines_text ys) ++ t) same)

lines-cut : (xs ys : List (List ℕ)) (s t : List ℕ) → AreBraced xs → AreBraced ys → Begins 106 s → Begins 106 t
    → lines_text xs ++ s ≡ lines_text ys ++ t → (xs ≡ ys) × (s ≡ t)
lines-cut [] [] s t in_xs in_ys end_s end_t same = (refl, same)
lines-cut [] (y ∷ ys) s t in_xs in_ys end_s end_t same = absurd (no-line s y ys t end_s in_ys.0.begins same)
lines-cut (x ∷ xs) [] s t in_xs in_ys end_s end_t same = absurd (no-line t x xs s end_t in_xs.0.begins (sym same))
lines-cut (x ∷ xs) (y ∷ ys) s t in_xs in_ys end_s end_t same =
    let left = lines_text xs ++ s in
    let right = lines_text ys ++ t in
    let parts = cut is_ink x y (10 ∷ left) (10 ∷ right) in_xs.0.ink in_ys.0.ink refl refl
    (sym (one-line x (lines_text xs) s) ∙ same ∙ one-line y (lines_text ys) t) in
    let rest = lines-cut xs ys s t in_xs.1 in_ys.1 end_s end_t (tail_same 10 10 left right parts.1) in
    let first : x ≡ y = parts.0 in
    let others : xs ≡ ys = rest.0 in
    (cc, rest.1)

-- ---- what is read of a line

-- the law of elements
abbrev pub OneWay : Type 0
OneWay = (metas : List MetaData) (sets : List (ℕ × ℕ)) (elements : Items) (one other : List Part) (bad worse : ℕ)
    → ReadAs metas sets elements one bad → ReadAs metas sets elements other worse → (one ≡ other) × (bad ≡ worse)

ok-same : (x y : List ℕ × Items) → Path (Result (List ℕ × Items) JsonEnd) (Ok x) (Ok y) → x ≡ y
ok-same x y e = cc

read-once : OneWay → (config : Config) (text : List ℕ) (a b : List Part) → ReadsLine config text a → ReadsLine config text b → a ≡ b
read-once law config text a b is its =
    let one = is.1 in
    let other = its.1 in
    let found : List Part = parts_in config.dataset its.0.parts in
    let same : one.items ≡ other.items =
    ap (λ (q : List ℕ × Items). q.1) (ok-same (is.0.publisher, one.items) (its.0.publisher, other.items) (sym one.judged ∙ other.judged)) in
    let there : ReadAs config.dataset (sets_of config) one.items found other.bad =
    subst (λ (items : Items). ReadAs config.dataset (sets_of config) items found other.bad) (sym same) other.parts in
    is.2 ∙ (law config.dataset (sets_of config) one.items (parts_in config.dataset is.0.parts) found one.bad other.bad one.parts there).0 ∙ sym its.2

reads-once : OneWay → (config : Config) (texts : List (List ℕ)) (a b : List Part) → ReadsLines config texts a → ReadsLines config texts b → a ≡ b
reads-once law config [] a b is its = is ∙ sym its
reads-once law config (text ∷ texts) a b is its =
    is.4 ∙ ap (λ (l : List Part). l ++ is.1) (read-once law config text is.0 its.0 is.2 its.2)
    ∙ ap (λ (l : List Part). its.0 ++ l) (reads-once law config texts is.1 its.1 is.3 its.3) ∙ sym its.4

-- ---- the whole text

count-is : (lines skipped : ℕ) (s : List ℕ) → count_line lines skipped ++ s ≡ codes "json lines " ++ (decimal lines ++ (codes " skipped " ++ (decimal skipped ++ (10 ∷ s))))
unfolding count_line
count-is lines skipped s = simp append_assoc

count-cut : (lines m n : ℕ) (s t : List ℕ) → IsNumber m → IsNumber n → count_line lines m ++ s ≡ count_line lines n ++ t → m ≡ n
count-cut lines m n s t in_m in_n same =
    let left = decimal m ++ (10 ∷ s) in
    let right = decimal n ++ (10 ∷ t) in
    let lined = append_cancel_left (codes "json lines ") (decimal lines ++ (codes " skipped " ++ left)) (decimal lines ++ (codes " skipped " ++ right))
    (sym (count-is lines m s) ∙ same ∙ count-is lines n t) in
    let skipped = append_cancel_left (decimal lines) (codes " skipped " ++ left) (codes " skipped " ++ right) lined in
    (number_cut m n (10 ∷ s) (10 ∷ t) in_m in_n refl refl (append_cancel_left (codes " skipped ") left right skipped)).0

reader-begins : (config : Config) (parts : List Part) (reader : ReaderPart) → Begins 106 (reader_line config parts reader)
unfolding reader_line
reader-begins config parts reader = refl

count-begins : (lines skipped : ℕ) → Begins 106 (count_line lines skipped)
unfolding count_line
count-begins lines skipped = refl

-- what stands behind the lines
abbrev behind : Config → List Part → List ReaderPart → ℕ → ℕ → List ℕ
behind config parts readers lines skipped = readers_text config parts readers ++ (count_line lines skipped ++ end_line)

behind-begins : (config : Config) (parts : List Part) (readers : List ReaderPart) (lines skipped : ℕ) → Begins 106 (behind config parts readers lines skipped)
behind-begins config parts [] lines skipped = begins-on 106 (count_line lines skipped) end_line (count-begins lines skipped)
behind-begins config parts (reader ∷ readers) lines skipped =
    begins-on 106 (readers_text config parts (reader ∷ readers)) (count_line lines skipped ++ end_line)
    (begins-on 106 (reader_line config parts reader) (readers_text config parts readers) (reader-begins config parts reader))

four : (a b c d : List ℕ) → a ++ b ++ c ++ d ≡ a ++ (b ++ (c ++ d))
four a b c d = simp append_assoc

text-is : (config : Config) (lines : List (List ℕ)) (parts : List Part) (skipped : ℕ)
    → json_text config lines parts skipped ≡ lines_text lines ++ behind config parts (json_readers config) (length lines) skipped
text-is config lines parts skipped = four (lines_text lines) (readers_text config parts (json_readers config)) (count_line (length lines) skipped) end_line

text-tells : OneWay → (config : Config) (lines others : List (List ℕ)) (parts its : List Part) (skipped left : ℕ) → AreBraced lines → AreBraced others → IsNumber skipped → IsNumber left
    → ReadsLines config lines parts → ReadsLines config others its → json_text config lines parts skipped ≡ json_text config others its left
    → AreLinesAlike lines others parts its skipped left
text-tells law config lines others parts its skipped left in_lines in_others in_skipped in_left read reads same =
    let readers = json_readers config in
    let parted = lines-cut lines others (behind config parts readers (length lines) skipped) (behind config its readers (length others) left) in_lines in_others
    (behind-begins config parts readers (length lines) skipped) (behind-begins config its readers (length others) left)
    (sym (text-is config lines parts skipped) ∙ same ∙ text-is config others its left) in
    let same_lines : lines ≡ others = parted.0 in
    let same_parts : parts ≡ its = reads-once law config lines parts its read (subst (λ (l : List (List ℕ)). ReadsLines config l its) (sym same_lines) reads) in
    let last : behind config its readers (length others) skipped ≡ behind config its readers (length others) left =
    ap (λ (l : List (List ℕ)). behind config its readers (length l) skipped) (sym same_lines)
    ∙ ap (λ (l : List Part). behind config l readers (length lines) skipped) (sym same_parts) ∙ parted.1 in
    record {
      lines_are = same_lines;
      parts_are = same_parts;
      skipped_are = count-cut (length others) skipped left end_line end_line in_skipped in_left
          (append_cancel_left (readers_text config its readers) (count_line (length others) skipped ++ end_line) (count_line (length others) left ++ end_line) last);
    }

-- ---- where the link tells its journal

counted-number : (n : ℕ) → IsNumber (counted n)
counted-number n = omega arith

told-braced : (config : Config) (told : Option LinkState) (lines : List (List ℕ)) (skipped : ℕ) → IsSome told → IsOfLink config told lines skipped → AreBraced lines × IsNumber skipped
told-braced config None lines skipped some of = absurd cc
told-braced config (Some state) lines skipped some of =
    let sent = sent_list state.journal in
    let is = of state refl in
    (subst AreBraced (sym is.lines_are) (written-braced config 0 (messages_of config sent)), subst (λ (n : ℕ). IsNumber n) (sym is.others) (counted-number (skipped_of config sent)))

pub lines-told : OneWay → (config : Config) (script other : Script) (told tells : Option LinkState) (text : List ℕ) (one : IsJsonOf config script told text) (its : IsJsonOf config other tells text)
    → IsSome told → IsSome tells → AreLinesAlike one.lines its.lines one.parts its.parts one.skipped its.skipped
lines-told law config script other told tells text one its some somewhere =
    let mine = told-braced config told one.lines one.skipped some one.of_sent in
    let theirs = told-braced config tells its.lines its.skipped somewhere its.of_sent in
    text-tells law config one.lines its.lines one.parts its.parts one.skipped its.skipped mine.0 theirs.0 mine.1 theirs.1 one.read its.read (sym one.text_is ∙ its.text_is)

pub own-told : OneWay → (config : Config) (script other : Script) (told tells : Option LinkState) (text : List ℕ) (one : IsJsonOf config script told text) (its : IsJsonOf config other tells text)
    → IsSome told → IsSome tells → AreOwn (plan_by config other) its.played.steps one.parts
own-told law config script other told tells text one its some somewhere =
    subst (AreOwn (plan_by config other) its.played.steps) (sym (lines-told law config script other told tells text one its some somewhere).parts_are) (its.own somewhere)
