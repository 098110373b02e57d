-- Where packets for a node go that was heard at a cable.
use Rattle.std.proofs.Common.{◌≡◌, ◌∙◌, refl, sym, ap, subst, arith, ℕ, ◌-◌, ◌<◌, ◌≤◌, Bool, true, false, ◌==◌, if◌then◌else◌, ◌⊎◌, inl, inr, [], ◌∷◌, Option, None, Some}
use Rattle.std.proofs.lemmas.Bool.{eq-eqb}
use Rattle.ipx_wire.specs.declared.node.Node.{Node}
use Rattle.ipx_segment.specs.declared.setting.Setting.{Setting}
use Rattle.ipx_segment.specs.Numbers.{station_lasts}
use Rattle.ipx_segment.specs.Nodes.{same_node, is_ordinary}
use Rattle.ipx_segment.specs.Events.{Heard, Sends, History}
use Rattle.ipx_segment.specs.Links.{is_up, links}
use Rattle.ipx_segment.specs.Stations.{station_of, heard_at, stations}
use Rattle.ipx_segment.specs.Receivers.{is_towards, is_back, links_for, takes, receivers}
use Rattle.ipx_segment.specs.Laws.{copies, seconds, link_after, is_known, LastHeard}
use Rattle.ipx_segment.proofs.Own.{one_known, none_known}
use Rattle.ipx_segment.proofs.Ways.{towards, alone, comes_there}
use Rattle.ipx_segment.proofs.Standing.{own, links_long}
use Rattle.ipx_segment.proofs.Staying.{At, Nowhere, Fading, at_least, at_heard, at_known, at_step, found_through, reaches_through, others_step, link_through, turns_none, heard_then, known_some, fades_through}

module _ (setting : Setting) (node : Node) (link : ℕ) (history : History) (last : LastHeard setting node link history) where
  abbrev base : History
  base = Heard link node last.destination ∷ last.earlier

  -- what the law starts from
  up : is_up (link_after setting link history) ≡ true
  up = grind (arith, link_through, turns_none)

  ordinary : is_ordinary setting node ≡ true
  ordinary = grind arith

  pub at_now : is_known setting node link base ≡ true → seconds last.later < station_lasts
      → At link (station_lasts - seconds last.later) (own setting node history)
  at_now known recent =
      let start : At link station_lasts (own setting node base) =
      elim (heard_then setting node link last.destination last.earlier last.share last.cable last.counts) [
        | inl none ↦ absurd (known_some setting node link base known none)
        | inr one ↦ at_heard setting node link (own setting node base) one
      ] in
      subst (λ (h : History). At link (station_lasts - seconds last.later) (own setting node h)) (sym last.event)
      (found_through setting node link last.later base last.others recent start)

  pub nowhere_else : Nowhere link (own setting node history)
  nowhere_else =
      let start : Nowhere link (own setting node base) =
      elim (heard_then setting node link last.destination last.earlier last.share last.cable last.counts) [
        | inl none ↦ inl none
        | inr one ↦ inr (at_least link 0 station_lasts (own setting node base) (omega arith) (at_heard setting node link (own setting node base) one))
      ] in
      subst (λ (h : History). Nowhere link (own setting node h)) (sym last.event) (reaches_through setting node link last.later base last.others start)

  pub faded : station_lasts ≤ seconds last.later → station_of node (stations setting history) ≡ None
  faded long =
      let start : (own setting node base ≡ []) ⊎ Fading setting node link 0 (own setting node base) =
      elim (heard_then setting node link last.destination last.earlier last.share last.cable last.counts) [
        | inl none ↦ inl none
        | inr one ↦ inr (record { station = heard_at link node; only = one; at = refl; unsure = refl; some = omega arith; most = omega arith })
      ] in
      let then_ : (own setting node history ≡ []) ⊎ Fading setting node link (seconds last.later) (own setting node history) =
      subst (λ (h : History). (own setting node h ≡ []) ⊎ Fading setting node link (seconds last.later) (own setting node h)) (sym last.event)
      (fades_through setting node link last.later base last.others start) in
      elim then_ [
        | inl none ↦ none_known node (stations setting history) none
        | inr f ↦ absurd (omega (arith, f.some, f.most, long))
      ]

  -- ---- where it is known

  to_it : (h : History) (least : ℕ) (came : Option ℕ) → is_up (link_after setting link h) ≡ true → At link least (own setting node h)
      → links_for setting (links setting h) (stations setting h) came node ≡ (if is_back came link then [] else link ∷ [])
  to_it h least came is_up_now a = grind (arith, towards, links_long, ordinary, one_known, alone)

  pub found_heard : (came : ℕ) (source : Node) → is_known setting node link base ≡ true → seconds last.later < station_lasts → same_node source node ≡ false
      → takes setting (Heard came source node ∷ history) ≡ true → receivers setting (Heard came source node ∷ history) ≡ (if link == came then [] else link ∷ [])
  found_heard came source known recent other counted =
      let after = Heard came source node ∷ history in
      ap (λ (b : Bool). if b then links_for setting (links setting after) (stations setting after) (Some came) node else []) counted
      ∙ to_it after _ (Some came) up (at_step setting node link _ (Heard came source node) history (λ e. cc) other (at_now known recent))

  pub found_sent : is_known setting node link base ≡ true → seconds last.later < station_lasts → receivers setting (Sends node ∷ history) ≡ link ∷ []
  found_sent known recent = to_it history _ None up (at_now known recent)

  -- ---- where it was heard

  its_way : (h : History) → Nowhere link (own setting node h) → is_towards (station_of node (stations setting h)) link ≡ true
  its_way h where_ = grind (arith, none_known, one_known, eq-eqb)

  there : (h : History) (came : Option ℕ) → is_up (link_after setting link h) ≡ true → is_back came link ≡ false → Nowhere link (own setting node h)
      → copies link (links_for setting (links setting h) (stations setting h) came node) ≡ 1
  there h came is_up_now forth where_ =
      ap (copies link) (towards setting (links setting h) (stations setting h) came (links_long setting h) node ordinary)
      ∙ comes_there setting (links setting h) (stations setting h) came (links_long setting h) (station_of node (stations setting h)) link (its_way h where_) is_up_now forth

  pub reaches_heard : (came : ℕ) (source : Node) → same_node source node ≡ false → (link == came) ≡ false
      → takes setting (Heard came source node ∷ history) ≡ true → copies link (receivers setting (Heard came source node ∷ history)) ≡ 1
  reaches_heard came source other forth counted =
      let after = Heard came source node ∷ history in
      ap (λ (b : Bool). copies link (if b then links_for setting (links setting after) (stations setting after) (Some came) node else [])) counted
      ∙ there after (Some came) up forth (others_step setting node link (Heard came source node) history (λ e. cc) other nowhere_else)

  pub reaches_sent : copies link (receivers setting (Sends node ∷ history)) ≡ 1
  reaches_sent = there history None up refl nowhere_else

  pub known_now : is_known setting node link base ≡ true → seconds last.later < station_lasts → is_known setting node link history ≡ true
  known_now known recent = at_known setting node link _ history (at_now known recent)
