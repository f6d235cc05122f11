-- Pieces of text that were put one after another.
use Rattle.std.proofs.Common.{◌≡◌, ℕ, List, ◌++◌, ap, ◌∙◌, append_assoc}

pub two_put : (start a b one two : List ℕ) → one ≡ start ++ a → two ≡ one ++ b → two ≡ start ++ (a ++ b)
two_put start a b one two is_one is_two = is_two ∙ ap (λ (l : List ℕ). l ++ b) is_one ∙ append_assoc start a b

pub three_put : (start a b c one two three : List ℕ) → one ≡ start ++ a → two ≡ one ++ b → three ≡ two ++ c → three ≡ start ++ (a ++ b ++ c)
three_put start a b c one two three is_one is_two is_three = two_put start (a ++ b) c two three (two_put start a b one two is_one is_two) is_three

pub four_put : (start a b c d one two three four : List ℕ) → one ≡ start ++ a → two ≡ one ++ b → three ≡ two ++ c → four ≡ three ++ d → four ≡ start ++ (a ++ b ++ c ++ d)
four_put start a b c d one two three four is_one is_two is_three is_four =
    two_put start (a ++ b ++ c) d three four (three_put start a b c one two three is_one is_two is_three) is_four
