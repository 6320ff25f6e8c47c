-- Texts of several parts, part by part.
use Rattle.std.proofs.Common.{◌≡◌, ℕ, List, ◌++◌, append_assoc, ◌∙◌}

pub join3 : (a b c rest : List ℕ) → a ++ b ++ c ++ rest ≡ a ++ (b ++ (c ++ rest))
join3 a b c rest = append_assoc (a ++ b) c rest ∙ append_assoc a b (c ++ rest)

pub join4 : (a b c d rest : List ℕ) → a ++ b ++ c ++ d ++ rest ≡ a ++ (b ++ (c ++ (d ++ rest)))
join4 a b c d rest = append_assoc (a ++ b ++ c) d rest ∙ join3 a b c (d ++ rest)

pub join5 : (a b c d e rest : List ℕ) → a ++ b ++ c ++ d ++ e ++ rest ≡ a ++ (b ++ (c ++ (d ++ (e ++ rest))))
join5 a b c d e rest = append_assoc (a ++ b ++ c ++ d) e rest ∙ join4 a b c d (e ++ rest)

pub join6 : (a b c d e f rest : List ℕ) → a ++ b ++ c ++ d ++ e ++ f ++ rest ≡ a ++ (b ++ (c ++ (d ++ (e ++ (f ++ rest)))))
join6 a b c d e f rest = append_assoc (a ++ b ++ c ++ d ++ e) f rest ∙ join5 a b c d e (f ++ rest)

pub join7 : (a b c d e f g rest : List ℕ) → a ++ b ++ c ++ d ++ e ++ f ++ g ++ rest ≡ a ++ (b ++ (c ++ (d ++ (e ++ (f ++ (g ++ rest))))))
join7 a b c d e f g rest = append_assoc (a ++ b ++ c ++ d ++ e ++ f) g rest ∙ join6 a b c d e f (g ++ rest)

pub join8 : (a b c d e f g h rest : List ℕ) → a ++ b ++ c ++ d ++ e ++ f ++ g ++ h ++ rest ≡ a ++ (b ++ (c ++ (d ++ (e ++ (f ++ (g ++ (h ++ rest)))))))
join8 a b c d e f g h rest = append_assoc (a ++ b ++ c ++ d ++ e ++ f ++ g) h rest ∙ join7 a b c d e f g (h ++ rest)

pub join9 : (a b c d e f g h i rest : List ℕ) → a ++ b ++ c ++ d ++ e ++ f ++ g ++ h ++ i ++ rest ≡ a ++ (b ++ (c ++ (d ++ (e ++ (f ++ (g ++ (h ++ (i ++ rest))))))))
join9 a b c d e f g h i rest = append_assoc (a ++ b ++ c ++ d ++ e ++ f ++ g ++ h) i rest ∙ join8 a b c d e f g h (i ++ rest)

pub join10 : (a b c d e f g h i j rest : List ℕ) → a ++ b ++ c ++ d ++ e ++ f ++ g ++ h ++ i ++ j ++ rest ≡ a ++ (b ++ (c ++ (d ++ (e ++ (f ++ (g ++ (h ++ (i ++ (j ++ rest)))))))))
join10 a b c d e f g h i j rest = append_assoc (a ++ b ++ c ++ d ++ e ++ f ++ g ++ h ++ i) j rest ∙ join9 a b c d e f g h i (j ++ rest)

pub join11 : (a b c d e f g h i j k rest : List ℕ) → a ++ b ++ c ++ d ++ e ++ f ++ g ++ h ++ i ++ j ++ k ++ rest ≡ a ++ (b ++ (c ++ (d ++ (e ++ (f ++ (g ++ (h ++ (i ++ (j ++ (k ++ rest))))))))))
join11 a b c d e f g h i j k rest = append_assoc (a ++ b ++ c ++ d ++ e ++ f ++ g ++ h ++ i ++ j) k rest ∙ join10 a b c d e f g h i j (k ++ rest)
