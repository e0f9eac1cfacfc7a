-- Rows of lanes, as they are opened one by one.
use Rattle.wcp_worker.proofs.Words.{◌≡◌, ◌≢◌, ◌⊎◌, ℕ, ◌+◌, ◌<◌, ◌≤◌, Option, None, List, [], ◌∷◌, ◌++◌, length, get_or}
use Rattle.wcp_worker.proofs.Words.{set, Vec, Global, sym, ap, ◌∙◌, subst, ⊎_elim, arith, cases_eq, common_steps}
use Rattle.wcp_worker.proofs.Words.{count_by, get_or-set_same, get_or-set_other, get_or_default, get_or_push}
use Rattle.wcp_worker.proofs.Words.{get_or_append_left, length-append, length-set, Action, is_send_to, Outbox, Inbox}
use Rattle.wcp_worker.proofs.Words.{Worker, IsLaneFor, outbox_to, inbox_from, IsSameButInboxes, HasRow, HaveLanes}

-- what holds of an entry once one is written
pub written : {X : Type 0} (P : X → Type 0) (xs : List X) (k j : ℕ) (x d : X) → k < length xs
    → (j ≡ k → P x) → (j ≢ k → P (get_or xs j d)) → P (get_or (set xs k x) j d)
written P xs k j x d within here there =
    let either : (j ≡ k) ⊎ (j ≢ k) = grind arith in
    ⊎_elim
    (λ (same : j ≡ k). subst P (sym (ap (λ i. get_or (set xs k x) i d) same ∙ get_or-set_same xs k x d within))
    (here same))
    (λ (apart : j ≢ k). subst P (sym (get_or-set_other xs k j x d apart)) (there apart))
    either

-- the entry that is about to be written, under any default
is_entry : {X : Type 0} (xs : List X) (k j : ℕ) (was d : X) → k < length xs → was ≡ get_or xs k was → j ≡ k
    → get_or xs j d ≡ was
is_entry xs k j was d within at same = ap (λ i. get_or xs i d) same ∙ get_or_default xs k d was within ∙ sym at

pub lane_along : (p : ℕ) {c e : ℕ} {o u : Option Outbox} {i y : Option Inbox} → c ≡ e → o ≡ u → i ≡ y
    → IsLaneFor p c o i → IsLaneFor p e u y
lane_along p count outbox inbox lane =
    subst (λ (t : ℕ × Option Outbox × Option Inbox). IsLaneFor p t.0 t.1 t.2) (λ j. (count j, outbox j, inbox j)) lane

-- worker q is given the end by which the messages of p come
module _
    (q : ℕ) (olds news : List Worker) (was : Worker)
    (count : length news ≡ length olds) (within : q < length news) (at : was ≡ get_or news q was)
    (same : (j : ℕ) (d : Worker) → j < length olds → IsSameButInboxes (get_or olds j d) (get_or news j d))
    (inboxes : Vec (Option Inbox) Global) where
  now : Worker
  now = record was { player = record was.player { mailbox = record was.player.mailbox { inboxes = inboxes } } }

  same_here : (j : ℕ) (d : Worker) → j < length olds → j ≡ q → IsSameButInboxes (get_or olds j d) now
  unfolding now
  same_here j d below is =
      let kept = subst (IsSameButInboxes (get_or olds j d)) (is_entry news q j was d within at is) (same j d below) in
      record { probe = kept.probe; actions = kept.actions; outboxes = kept.outboxes }

  pub same_more : (j : ℕ) (d : Worker) → j < length olds → IsSameButInboxes (get_or olds j d) (get_or (set news q
      (record was { player = record was.player { mailbox = record was.player.mailbox { inboxes = inboxes } } })) j d)
  unfolding now
  same_more j d below =
      written (IsSameButInboxes (get_or olds j d)) news q j now d within (same_here j d below) (λ apart. same j d below)

  module _
      (rest : (j : ℕ) (d : Worker) → q ≤ j → j < length olds
      → (get_or news j d).player.mailbox.inboxes.items ≡ (get_or olds j d).player.mailbox.inboxes.items) where
    pub rest_more : (j : ℕ) (d : Worker) → q + 1 ≤ j → j < length olds
        → (get_or (set news q (record was {
          player = record was.player {
            mailbox = record was.player.mailbox
                { inboxes = inboxes };
          };
        })) j d).player.mailbox.inboxes.items ≡ (get_or olds j d).player.mailbox.inboxes.items
    rest_more j d past below =
        written (λ (w : Worker). w.player.mailbox.inboxes.items ≡ (get_or olds j d).player.mailbox.inboxes.items) news q
        j _ d within
        (λ is. absurd (omega arith)) (λ apart. rest j d (omega arith) below)

    pub given_more : (p : ℕ) (actions : List Action) (row : List (Option Outbox)) (outbox : Option Outbox)
        (inbox : Option Inbox)
        → ((j : ℕ) (d : Worker) → j < q → HasRow p actions row j (get_or olds j d) (get_or news j d))
        → length row ≡ q → inboxes.items ≡ was.player.mailbox.inboxes.items ++ inbox ∷ []
        → IsLaneFor p (count_by (is_send_to q) actions) outbox inbox → (j : ℕ) (d : Worker) → j < q + 1
        → HasRow p actions (row ++ outbox ∷ []) j (get_or olds j d) (get_or (set news q (record was
        { player = record was.player { mailbox = record was.player.mailbox { inboxes = inboxes } } })) j d)
    unfolding now
    given_more p actions row outbox inbox given full pushed lane j d below =
        written (HasRow p actions (row ++ outbox ∷ []) j (get_or olds j d)) news q j now d within
        (λ is. record {
          same = same_here j d (omega arith) is;
          inbox = inbox;
          inboxes = pushed ∙ ap (λ xs. xs ++ inbox ∷ []) (ap (λ (w : Worker). w.player.mailbox.inboxes.items)
              (sym (is_entry news q j was d within at is)) ∙ rest j d (omega arith) (omega arith));
          lane = lane_along p (ap (λ to. count_by (is_send_to to) actions) (sym is))
              (sym (get_or_push row outbox None j (full ∙ sym is))) (λ i. inbox) lane;
        })
        (λ apart.
        let before = given j d (omega arith) in
        record {
          same = before.same;
          inbox = before.inbox;
          inboxes = before.inboxes;
          lane = lane_along p (λ i. count_by (is_send_to j) actions)
              (sym (get_or_append_left row (outbox ∷ []) None j (omega arith))) (λ i. before.inbox) before.lane;
        })

-- a row more, and worker k has it to send by
module _
    (k : ℕ) (olds news mid : List Worker) (row : Vec (Option Outbox) Global) (was : Worker)
    (have : HaveLanes k olds news) (count : length mid ≡ length news) (full : length row.items ≡ length news)
    (each : (q : ℕ) (d : Worker) → q < length news
    → HasRow k (get_or news k d).actions.items row.items q (get_or news q d) (get_or mid q d))
    (within : k < length mid) (at : was ≡ get_or mid k was) where
  abbrev seated : Worker
  seated = record was { player = record was.player { mailbox = record was.player.mailbox { outboxes = row } } }

  abbrev nexts : List Worker
  nexts = set mid k seated

  -- what the writing leaves alone
  kept : {Y : Type 0} (f : Worker → Y) → f seated ≡ f was → (q : ℕ) (d : Worker)
      → f (get_or nexts q d) ≡ f (get_or mid q d)
  kept f same q d =
      written (λ (w : Worker). f w ≡ f (get_or mid q d)) mid k q seated d within
      (λ is. same ∙ ap f (sym (is_entry mid k q was d within at is))) (λ apart i. f (get_or mid q d))

  inboxes_more : (q : ℕ) (d : Worker) (below : q < length news)
      → (get_or nexts q d).player.mailbox.inboxes.items
      ≡ (get_or news q d).player.mailbox.inboxes.items ++ (each q d below).inbox ∷ []
  inboxes_more q d below = kept (λ w. w.player.mailbox.inboxes.items) (λ i. was.player.mailbox.inboxes.items) q d
      ∙ (each q d below).inboxes

  actions_more : (q : ℕ) (d : Worker) → q < length news → (get_or nexts q d).actions ≡ (get_or news q d).actions
  actions_more q d below = kept (λ w. w.actions) (λ i. was.actions) q d ∙ (each q d below).same.actions

  lane_old : (p q : ℕ) (d : Worker) → p < k → q < length news
      → IsLaneFor p (count_by (is_send_to q) (get_or nexts p d).actions.items)
      (outbox_to (get_or nexts p d).player.mailbox q) (inbox_from (get_or nexts q d).player.mailbox p)
  lane_old p q d before below =
      let outboxes = written (λ (w : Worker). w.player.mailbox.outboxes ≡ (get_or mid p d).player.mailbox.outboxes) mid
      k p seated d within (λ is. absurd (omega arith)) (λ apart i. (get_or mid p d).player.mailbox.outboxes) in
      lane_along p
      (ap (λ a. count_by (is_send_to q) a.items) (sym (actions_more p d (omega (arith, have.count)))))
      (ap (λ o. get_or o.items q None) (sym (outboxes ∙ (each p d (omega (arith, have.count))).same.outboxes)))
      (sym (ap (λ xs. get_or xs p None) (inboxes_more q d below)
      ∙ get_or_append_left _ _ None p (omega (arith, have.columns q d (omega (arith, have.count))))))
      (have.lanes p q d before (omega (arith, have.count)))

  lane_new : (q : ℕ) (d : Worker) → q < length news
      → IsLaneFor k (count_by (is_send_to q) (get_or nexts k d).actions.items)
      (outbox_to (get_or nexts k d).player.mailbox q) (inbox_from (get_or nexts q d).player.mailbox k)
  lane_new q d below =
      lane_along k
      (ap (λ a. count_by (is_send_to q) a.items) (sym (actions_more k d (omega arith))))
      (sym (ap (λ (w : Worker). get_or w.player.mailbox.outboxes.items q None) (get_or-set_same mid k seated d within)))
      (sym (ap (λ xs. get_or xs k None) (inboxes_more q d below)
      ∙ get_or_push _ _ None k (have.columns q d (omega (arith, have.count)))))
      (each q d below).lane

  pub lanes_more : HaveLanes (k + 1) olds nexts
  lanes_more =
      record {
        count = length-set mid k seated ∙ count ∙ have.count;
        probe = λ q d below. kept (λ w. w.player.probe) (λ i. was.player.probe) q d
            ∙ (each q d (omega (arith, have.count))).same.probe ∙ have.probe q d below;
        actions = λ q d below. actions_more q d (omega (arith, have.count)) ∙ have.actions q d below;
        rows = λ q d before.
            grind (
              arith,
              common_steps,
              before,
              within,
              full,
              have.count,
              (λ (apart : q < k).
                  (each q d (omega (arith, apart, within, count))).same.outboxes),
              have.rows q d,
              get_or-set_same mid k seated d within,
              get_or-set_other mid k q seated d,
              cases_eq q k,
            );
        columns = λ q d below.
            ap length (inboxes_more q d (omega (arith, have.count))) ∙ length-append _ _
            ∙ ap (λ n. n + 1) (have.columns q d below);
        lanes = λ p q d before below.
            let here : (p ≡ k) ⊎ (p < k) = grind arith in
            ⊎_elim
            (λ (is : p ≡ k). subst (λ (r : ℕ). IsLaneFor r (count_by (is_send_to q) (get_or nexts r d).actions.items)
            (outbox_to (get_or nexts r d).player.mailbox q) (inbox_from (get_or nexts q d).player.mailbox r)) (sym is)
            (lane_new q d (omega (arith, have.count))))
            (λ (earlier : p < k). lane_old p q d earlier (omega (arith, have.count)))
            here;
      }
