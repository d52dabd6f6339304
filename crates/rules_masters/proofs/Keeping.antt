-- The choice as a fold, for any list and any `better`.
use mathlib.Core.Path.{◌≡◌, refl, sym, ap, subst, ◌∙◌}
use mathlib.Core.Bool.{Bool, true, false, cond, true≢false}
use mathlib.Core.List.Memᴰ
use mathlib.Core.List.{List, [], ◌∷◌, Memᴰ}
use mathlib.Core.Logic.{⊎_elim}
use Rattle.rules_masters.specs.Choosing.{those, kept_among}

-- what is kept is in the list
module _ {A : Type 0} (better : A → A → Bool) where
  pub kept_in : (held : A) (rest : List A) → Memᴰ (kept_among better held rest) (held ∷ rest)
  unfolding kept_among
  kept_in held [] = Memᴰ.head refl
  kept_in held (next ∷ rest) = by (better next held) (kept_in (cond (better next held) next held) rest)
    where
      by : (t : Bool) → Memᴰ (kept_among better (cond t next held) rest) (cond t next held ∷ rest)
          → Memᴰ (kept_among better (cond t next held) rest) (held ∷ next ∷ rest)
      by true m = Memᴰ.tail m
      by false m = ⊎_elim (λ e. Memᴰ.head e) (λ k. Memᴰ.tail (Memᴰ.tail k)) (Memᴰ.cases_cons m)

-- where `better` is irreflexive, and transitive among those of which P holds, nothing in a list of such beats what is kept
module _ {A : Type 0} (better : A → A → Bool) (P : A → Type 0) (irreflexive : (x : A) → better x x ≡ false)
    (transitive : (x y z : A) → P x → P y → P z → better x y ≡ true → better y z ≡ true → better x z ≡ true) where
  either : (t : Bool) (held next : A) → P held → P next → P (cond t next held)
  either true held next p q = q
  either false held next p q = p

  not-by : (t : Bool) (y held next : A) → P held → P next → P y → better next held ≡ true → better y held ≡ false → better y next ≡ t → t ≡ false
  not-by true y held next p q r e h f = absurd (true≢false (sym (transitive y next held r q p f e) ∙ h))
  not-by false y held next p q r e h f = refl

  -- what does not beat the one held does not beat the next one held
  not-beaten : (t : Bool) (y held next : A) → P held → P next → P y → better next held ≡ t → better y held ≡ false → better y (cond t next held) ≡ false
  not-beaten true y held next p q r e h = not-by (better y next) y held next p q r e h refl
  not-beaten false y held next p q r e h = h

  stays : (held : A) (rest : List A) → P held → ((x : A) → Memᴰ x rest → P x) → (y : A) → P y → better y held ≡ false
      → better y (kept_among better held rest) ≡ false
  unfolding kept_among
  stays held [] p all y r h = h
  stays held (next ∷ rest) p all y r h =
      let q = all next (Memᴰ.head refl) in
      stays (cond (better next held) next held) rest (either (better next held) held next p q) (λ x k. all x (Memᴰ.tail k)) y r
      (not-beaten (better next held) y held next p q r refl h)

  -- the next itself does not beat the next one held
  not_itself : (t : Bool) (held next : A) → better next held ≡ t → better next (cond t next held) ≡ false
  not_itself true held next e = irreflexive next
  not_itself false held next e = e

  later : (held : A) (rest : List A) → P held → ((x : A) → Memᴰ x rest → P x) → (y : A) → Memᴰ y rest
      → better y (kept_among better held rest) ≡ false
  unfolding kept_among
  later held [] p all y m = absurd (elim m [ ])
  later held (next ∷ rest) p all y m =
      let q = all next (Memᴰ.head refl) in
      let k = either (better next held) held next p q in
      ⊎_elim
      (λ e. rw e (stays (cond (better next held) next held) rest k (λ x j. all x (Memᴰ.tail j)) next q (not_itself (better next held) held next refl)))
      (λ j. later (cond (better next held) next held) rest k (λ x i. all x (Memᴰ.tail i)) y j)
      (Memᴰ.cases_cons m)

  pub unbeaten : (held : A) (rest : List A) → ((x : A) → Memᴰ x (held ∷ rest) → P x) → (y : A) → Memᴰ y (held ∷ rest)
      → better y (kept_among better held rest) ≡ false
  unbeaten held rest all y m =
      let p = all held (Memᴰ.head refl) in
      ⊎_elim
      (λ e. rw e (stays held rest p (λ x j. all x (Memᴰ.tail j)) held p (irreflexive held)))
      (λ j. later held rest p (λ x i. all x (Memᴰ.tail i)) y j)
      (Memᴰ.cases_cons m)

-- those of which p holds are in the list, and there are none exactly where p holds of nothing in it
module _ {A : Type 0} (p : A → Bool) where
  pub those-in : (l : List A) (x : A) → Memᴰ x (those p l) → Memᴰ x l × (p x ≡ true)
  unfolding those
  those-in [] x m = absurd (elim m [ ])
  those-in (y ∷ l) x m = by (p y) refl (those-in l x) m
    where
      by : (t : Bool) → p y ≡ t → (Memᴰ x (those p l) → Memᴰ x l × (p x ≡ true))
          → Memᴰ x (cond t (y ∷ those p l) (those p l)) → Memᴰ x (y ∷ l) × (p x ≡ true)
      by true e rest k = ⊎_elim (λ q. (Memᴰ.head q, rw q e)) (λ j. (Memᴰ.tail (rest j).0, (rest j).1)) (Memᴰ.cases_cons k)
      by false e rest k = (Memᴰ.tail (rest k).0, (rest k).1)

  pub those-has : (l : List A) (x : A) → Memᴰ x l → p x ≡ true → Memᴰ x (those p l)
  unfolding those
  those-has [] x m h = m
  those-has (y ∷ l) x m h = ⊎_elim (λ e. here e (p y) refl) (λ j. there (p y) (those-has l x j h)) (Memᴰ.cases_cons m)
    where
      here : x ≡ y → (t : Bool) → p y ≡ t → Memᴰ x (cond t (y ∷ those p l) (those p l))
      here e true f = Memᴰ.head e
      here e false f = absurd (true≢false (sym h ∙ ap p e ∙ f))

      there : (t : Bool) → Memᴰ x (those p l) → Memᴰ x (cond t (y ∷ those p l) (those p l))
      there true j = Memᴰ.tail j
      there false j = j

  pub those-none : (l : List A) → those p l ≡ [] → (x : A) → Memᴰ x l → p x ≡ false
  those-none l e x m = by (p x) refl
    where
      by : (t : Bool) → p x ≡ t → t ≡ false
      by true f = absurd (elim (subst (λ k. Memᴰ x k) e (those-has l x m f)) [ ])
      by false f = refl

  pub none-those : (l : List A) → ((x : A) → Memᴰ x l → p x ≡ false) → those p l ≡ []
  none-those l none = by (those p l) refl
    where
      by : (m : List A) → those p l ≡ m → m ≡ []
      by [] e = refl
      by (x ∷ m) e =
          let k = those-in l x (rw e (Memᴰ.head refl)) in
          absurd (true≢false (sym k.1 ∙ none x k.0))
