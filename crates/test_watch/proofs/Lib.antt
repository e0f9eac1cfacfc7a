mod EndsOfWatch
