use Rattle.wcp_model.proofs.FitOrders.{fit_orders_alike}
use Rattle.wcp_model.proofs.fit_orders.fit_order_law.Goals as goal

pub returns : goal.returns
returns c = fit_orders_alike
