-- What several writes at the end of a text leave.
use Rattle.std.proofs.Common.{◌≡◌, ℕ, List, ◌∷◌, ◌++◌, ap, ◌∙◌, append_assoc}
use Rattle.tenant_service.specs.Texts.{named}

pub two : (o p q a b : List ℕ) → p ≡ o ++ a → q ≡ p ++ b → q ≡ o ++ (a ++ b)
two o p q a b e f = f ∙ ap (λ l. l ++ b) e ∙ append_assoc o a b

pub three : (o p q r a b c : List ℕ) → p ≡ o ++ a → q ≡ p ++ b → r ≡ q ++ c → r ≡ o ++ (a ++ b ++ c)
three o p q r a b c e f g = two o q r (a ++ b) c (two o p q a b e f) g

pub four : (o p q r s a b c d : List ℕ) → p ≡ o ++ a → q ≡ p ++ b → r ≡ q ++ c → s ≡ r ++ d → s ≡ o ++ (a ++ b ++ c ++ d)
four o p q r s a b c d e f g h = two o r s (a ++ b ++ c) d (three o p q r a b c e f g) h

pub five : (o p q r s t a b c d x : List ℕ) → p ≡ o ++ a → q ≡ p ++ b → r ≡ q ++ c → s ≡ r ++ d → t ≡ s ++ x → t ≡ o ++ (a ++ b ++ c ++ d ++ x)
five o p q r s t a b c d x e f g h k = two o s t (a ++ b ++ c ++ d) x (four o p q r s a b c d e f g h) k

pub three_named : (o p q r word tenant name : List ℕ) → p ≡ o ++ word → q ≡ p ++ 32 ∷ tenant → r ≡ q ++ 32 ∷ name → r ≡ o ++ named word tenant name
three_named o p q r word tenant name e f g = three o p q r word (32 ∷ tenant) (32 ∷ name) e f g ∙ ap (λ l. o ++ l) (append_assoc word (32 ∷ tenant) (32 ∷ name))
